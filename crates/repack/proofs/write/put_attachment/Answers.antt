-- `repack::write::put_attachment` meets its contract.
use native.Mathlib.Omega.{arith}
use Rattle.repack.proofs.Annexes.{attachment-room, attachment-put}
use Rattle.repack.proofs.Written.{name-long}
use Rattle.segments.specs.declared.kinds.Kind.TheVariants as Kind
use Rattle.repack.proofs.write.put_attachment.Goals as goal

pub put_header-requires : goal.put_header-requires
put_header-requires c =
    let r = attachment-room _ c.args.e _ c.requires.e_in_bounds.0 c.requires.e_in_bounds.1 _ c.attachment_content_size-size.ensures c.requires.e_in_bounds.2 _ c.args.p c.requires.q_in_bounds in
    (omega arith, name-long Kind.Attachment c.name.ensures, r.small)

pub overflow_sub-size : goal.overflow_sub-size
overflow_sub-size c =
    let r = attachment-room _ c.args.e _ c.requires.e_in_bounds.0 c.requires.e_in_bounds.1 _ c.attachment_content_size-size.ensures c.requires.e_in_bounds.2 _ c.args.p c.requires.q_in_bounds in
    r.least

pub put_attachment_content-requires : goal.put_attachment_content-requires
put_attachment_content-requires c =
    let r = attachment-room _ c.args.e _ c.requires.e_in_bounds.0 c.requires.e_in_bounds.1 _ c.attachment_content_size-size.ensures c.requires.e_in_bounds.2 _ c.args.p c.requires.q_in_bounds in
    (c.requires.e_in_bounds.0, r.within, r.part, omega arith)

pub overflow_add-p-3 : goal.overflow_add-p-3
overflow_add-p-3 c =
    let r = attachment-room _ c.args.e _ c.requires.e_in_bounds.0 c.requires.e_in_bounds.1 _ c.attachment_content_size-size.ensures c.requires.e_in_bounds.2 _ c.args.p c.requires.q_in_bounds in
    omega arith

pub put_padding-requires : goal.put_padding-requires
put_padding-requires c =
    let r = attachment-room _ c.args.e _ c.requires.e_in_bounds.0 c.requires.e_in_bounds.1 _ c.attachment_content_size-size.ensures c.requires.e_in_bounds.2 _ c.args.p c.requires.q_in_bounds in
    (omega arith, r.small)

pub returns : goal.returns
returns c =
    attachment-put _ c.args.e _ c.requires.e_in_bounds.0 c.requires.e_in_bounds.1 _ c.attachment_content_size-size.ensures _ _ _ _ c.args.p c.requires.q_in_bounds c.put_padding.ensures
    c.put_attachment_content.ensures (rw c.name.ensures at c.put_header.ensures)
