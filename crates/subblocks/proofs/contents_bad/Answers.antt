-- `subblocks::contents_bad` meets its contract.
use Prim.Native.Nat.{◌≤◌}
use native.Mathlib.Omega.{arith}
use Rattle.format.proofs.Flags.{flags, any_here, any-later, any-skip, any_none, not-is-true, not-is-false, le-no'}
use Rattle.format.specs.SubBlock.{contents_bad}
use Rattle.subblocks.proofs.PartLaws.{sizes-in, sum_over, sum_fits, size-wrong, size-right}
use Rattle.subblocks.proofs.contents_bad.Goals as goal

pub metadata_size-metadata-requires : goal.metadata_size-metadata-requires
metadata_size-metadata-requires c = search sizes-in

pub returns-then-metadata-ge2147483648 : goal.returns-then-metadata-ge2147483648
unfolding contents_bad
returns-then-metadata-ge2147483648 c = let h : 2147483648 ≤ c.metadata_size-metadata.result = omega arith in search flags depth 8

pub attachment_size-attachment-requires : goal.attachment_size-attachment-requires
attachment_size-attachment-requires c = search sizes-in

pub returns-then-attachment-ge2147483648 : goal.returns-then-attachment-ge2147483648
unfolding contents_bad
returns-then-attachment-ge2147483648 c = let h : 2147483648 ≤ c.attachment_size-attachment.result = omega arith in search flags depth 8

pub data_size-data-requires : goal.data_size-data-requires
data_size-data-requires c = search sizes-in

pub returns-then-data-ge9223372036854775808 : goal.returns-then-data-ge9223372036854775808
unfolding contents_bad
returns-then-data-ge9223372036854775808 c = let h : 9223372036854775808 ≤ c.data_size-data.result = omega arith in search flags depth 8

pub returns-then-room_at-fixed : goal.returns-then-room_at-fixed
unfolding contents_bad
returns-then-room_at-fixed c = search (flags, sum_over) depth 8

pub returns-then-not-is_pixels_size : goal.returns-then-not-is_pixels_size
unfolding contents_bad
returns-then-not-is_pixels_size c = any-later _ _ (any-later _ _ (any-later _ _ (any-later _ _ (search (any_here, not-is-true, size-wrong)))))

pub returns : goal.returns
unfolding contents_bad
returns c = search (any-skip, any_none, le-no', not-is-false, size-right, sum_fits) depth 8
