-- `repack::write::put_metadata_at` meets its contract.
use native.Mathlib.Omega.{arith}
use Rattle.repack.proofs.Annexes.{metadata-room, metadata-put}
use Rattle.repack.proofs.Written.{name-long}
use Rattle.segments.specs.declared.kinds.Kind.TheVariants as Kind
use Rattle.repack.proofs.write.put_metadata_at.Goals as goal

pub put_header-requires : goal.put_header-requires
put_header-requires c =
    let r = metadata-room _ c.requires.accepted_file.0 _ c.requires.accepted_file.1 c.requires.accepted_file.2 _ c.metadata_content_size-size.ensures _ c.args.p c.requires.m_in_bounds in
    (omega arith, name-long Kind.Metadata c.name.ensures, r.small)

pub overflow_sub-size : goal.overflow_sub-size
overflow_sub-size c =
    let r = metadata-room _ c.requires.accepted_file.0 _ c.requires.accepted_file.1 c.requires.accepted_file.2 _ c.metadata_content_size-size.ensures _ c.args.p c.requires.m_in_bounds in
    r.least

pub put_metadata_content-requires : goal.put_metadata_content-requires
put_metadata_content-requires c =
    let r = metadata-room _ c.requires.accepted_file.0 _ c.requires.accepted_file.1 c.requires.accepted_file.2 _ c.metadata_content_size-size.ensures _ c.args.p c.requires.m_in_bounds in
    (r.within, r.parts, omega arith)

pub overflow_add-p-3 : goal.overflow_add-p-3
overflow_add-p-3 c =
    let r = metadata-room _ c.requires.accepted_file.0 _ c.requires.accepted_file.1 c.requires.accepted_file.2 _ c.metadata_content_size-size.ensures _ c.args.p c.requires.m_in_bounds in
    omega arith

pub put_padding-requires : goal.put_padding-requires
put_padding-requires c =
    let r = metadata-room _ c.requires.accepted_file.0 _ c.requires.accepted_file.1 c.requires.accepted_file.2 _ c.metadata_content_size-size.ensures _ c.args.p c.requires.m_in_bounds in
    (omega arith, r.small)

pub returns : goal.returns
returns c =
    metadata-put _ c.requires.accepted_file.0 _ c.requires.accepted_file.1 c.requires.accepted_file.2 _ c.metadata_content_size-size.ensures _ _ _ _ c.args.p c.requires.m_in_bounds c.put_padding.ensures
    c.put_metadata_content.ensures (rw c.name.ensures at c.put_header.ensures)
