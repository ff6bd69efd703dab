-- `repack::write::put_attachment_directory_at` meets its contract.
use native.Mathlib.Omega.{arith}
use Rattle.repack.proofs.Sums.{attachments-most}
use Rattle.repack.proofs.Annexes.{directory-put}
use Rattle.repack.proofs.WholeFile.{directory-placed, directory-here}
use Rattle.repack.proofs.Written.{name-long}
use Rattle.segments.specs.declared.kinds.Kind.TheVariants as Kind
use Rattle.repack.proofs.write.put_attachment_directory_at.Goals as goal

pub attachment_directory_size-size-requires : goal.attachment_directory_size-size-requires
attachment_directory_size-size-requires c = search attachments-most

pub put_header-requires : goal.put_header-requires
put_header-requires c = let r = directory-here _ _ _ c.requires.repack_room _ c.requires.named _ c.attachment_directory_size-size.ensures in (omega arith, name-long Kind.AttachmentDirectory c.name.ensures, r.small)

pub overflow_add-p : goal.overflow_add-p
overflow_add-p c = let r = directory-here _ _ _ c.requires.repack_room _ c.requires.named _ c.attachment_directory_size-size.ensures in omega arith

pub put_attachment_directory_content-requires : goal.put_attachment_directory_content-requires
put_attachment_directory_content-requires c =
    let k = c.requires.repack_room in
    let r = directory-here _ _ _ k _ c.requires.named _ c.attachment_directory_size-size.ensures in
    record {
      repack_room = record { accepted = k.accepted; places = k.places; fits = omega arith };
      in_bounds = (c.requires.named.0, c.requires.named.1, omega arith);
    }

pub overflow_add-p-2 : goal.overflow_add-p-2
overflow_add-p-2 c = let r = directory-here _ _ _ c.requires.repack_room _ c.requires.named _ c.attachment_directory_size-size.ensures in omega arith

pub overflow_add-p-3 : goal.overflow_add-p-3
overflow_add-p-3 c = let r = directory-here _ _ _ c.requires.repack_room _ c.requires.named _ c.attachment_directory_size-size.ensures in omega arith

pub put_padding-requires : goal.put_padding-requires
put_padding-requires c = let r = directory-here _ _ _ c.requires.repack_room _ c.requires.named _ c.attachment_directory_size-size.ensures in (omega arith, r.small)

pub returns : goal.returns
returns c =
    let k = c.requires.repack_room in
    directory-put _ k.accepted _ k.places.attachments _ c.attachment_directory_size-size.ensures _ c.requires.named.0 c.requires.named.1 _ _ _ _ _
    (directory-placed _ _ _ k _ c.requires.named)
    c.put_padding.ensures c.put_attachment_directory_content.ensures (rw c.name.ensures at c.put_header.ensures)
