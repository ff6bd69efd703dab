-- `repack::write::put_directory` meets its contract.
use native.Mathlib.Omega.{arith}
use borrow.Author.Rules.{rules}
use Rattle.judge.proofs.AcceptedFile.{accepted-long}
use Rattle.pack.specs.Pack.{allocated, segment_size}
use Rattle.repacked.specs.NewFile.{directory_size}
use Rattle.repack.proofs.NewPlaces.{directory-small}
use Rattle.repack.proofs.Written.{name-long, directory-count, directory-count-fits, directory-entries-room, directory-put}
use Rattle.repack.proofs.WholeFile.{file-room}
use Rattle.segments.specs.declared.kinds.Kind.TheVariants as Kind
use Rattle.repack.proofs.write.put_directory.Goals as goal

pub directory_position-d-requires : goal.directory_position-d-requires
unfolding segment_size allocated directory_size
directory_position-d-requires c = search accepted-long

pub put_header-requires : goal.put_header-requires
unfolding segment_size allocated directory_size
put_header-requires c = let r = file-room _ _ c.requires.fits in search (rules, directory-small, name-long Kind.Directory c.name.ensures)

pub overflow_add-d : goal.overflow_add-d
unfolding segment_size allocated directory_size
overflow_add-d c = search directory-count-fits

pub put_part-requires : goal.put_part-requires
unfolding segment_size allocated directory_size
put_part-requires c = let r = file-room _ _ c.requires.fits in search (rules, directory-count)

pub put_zeros-requires : goal.put_zeros-requires
unfolding segment_size allocated directory_size
put_zeros-requires c = let r = file-room _ _ c.requires.fits in search rules

pub put_entries-requires : goal.put_entries-requires
put_entries-requires c =
    let room = directory-entries-room _ 544 _ _ c.requires.places.tiles (file-room _ _ c.requires.fits).directory in
    record { repack_room = record { accepted = c.requires.accepted; places = c.requires.places; fits = omega arith }; in_bounds = omega arith }

pub overflow_add-size : goal.overflow_add-size
unfolding segment_size allocated directory_size
overflow_add-size c = let r = file-room _ _ c.requires.fits in search rules

pub put_padding-requires : goal.put_padding-requires
unfolding segment_size allocated directory_size
put_padding-requires c = let r = file-room _ _ c.requires.fits in search (rules, directory-small)

pub returns : goal.returns
returns c =
    directory-put _ _ _ _ _ _ _ _ _ _ _ c.requires.accepted c.requires.places.tiles c.directory_position-d.ensures c.directory_size-size.ensures
    (file-room _ _ c.requires.fits).directory c.put_padding.ensures c.put_entries.ensures c.put_zeros.ensures c.put_part.ensures
    (rw c.name.ensures at c.put_header.ensures)
