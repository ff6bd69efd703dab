-- `attachments::metadata_bad` meets its contract.
use Prim.Native.Nat.{◌+◌, ◌<◌, ◌≤◌}
use native.Mathlib.Omega.{arith}
use Rattle.format.proofs.Flags.{flags}
use Rattle.format.specs.Attachments.{metadata_bad}
use Rattle.attachments.proofs.AttachmentLaws.{metadata-short}
use Rattle.attachments.proofs.metadata_bad.Goals as goal

pub returns-then-room-lt256 : goal.returns-then-room-lt256
returns-then-room-lt256 c = metadata-short _ _ (rw (← c.room_at-room.ensures) c.if-room-lt256.true)

pub returns-then-xml-ge2147483648 : goal.returns-then-xml-ge2147483648
unfolding metadata_bad
returns-then-xml-ge2147483648 c = let h : 2147483648 ≤ c.xml_size-xml.result = omega arith in search flags depth 8

pub returns-then-attachment-ge2147483648 : goal.returns-then-attachment-ge2147483648
unfolding metadata_bad
returns-then-attachment-ge2147483648 c = let h : 2147483648 ≤ c.xml_attachment_size-attachment.result = omega arith in search flags depth 8

pub returns-then-room-xml : goal.returns-then-room-xml
unfolding metadata_bad
returns-then-room-xml c =
    let a = c.xml_attachment_size-attachment in
    let h : c.room_at-room.result < 256 + c.xml_size-xml.result + a.result = omega arith in
    rw (← c.xml_size-xml.ensures.0, ← a.ensures.0) (search flags depth 8)

pub returns : goal.returns
unfolding metadata_bad
returns c =
    let a = c.xml_attachment_size-attachment in
    let h : 256 + c.xml_size-xml.result + a.result ≤ c.room_at-room.result = omega arith in
    rw (← c.xml_size-xml.ensures.0, ← a.ensures.0) (search flags depth 8)
