-- The name of each kind of segment.
use Rattle.std.specs.Prelude.{ℕ, List}
use Rattle.format.specs.Names.{name_file, name_directory, name_sub_block, name_metadata, name_attachment, name_attachment_directory, name_deleted}
use Rattle.segments.specs.declared.kinds.Kind.{Kind}
use Rattle.segments.specs.declared.kinds.Kind.TheVariants as Kind

abbrev pub name_of : Kind → List ℕ
name_of Kind.File = name_file
name_of Kind.Directory = name_directory
name_of Kind.SubBlock = name_sub_block
name_of Kind.Metadata = name_metadata
name_of Kind.Attachment = name_attachment
name_of Kind.AttachmentDirectory = name_attachment_directory
name_of Kind.Deleted = name_deleted
