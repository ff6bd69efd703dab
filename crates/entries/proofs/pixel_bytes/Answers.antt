-- `entries::pixel_bytes` meets its contract.
use Rattle.format.specs.Entry.{pixel_bytes}
use Rattle.format.proofs.Flags.{flags}
use Rattle.entries.proofs.pixel_bytes.Goals as goal

pub returns-in-0 : goal.returns-in-0
unfolding pixel_bytes
returns-in-0 c = rw c.in-0.is

pub returns-in-1 : goal.returns-in-1
unfolding pixel_bytes
returns-in-1 c = rw c.in-1.is

pub returns-in-2 : goal.returns-in-2
unfolding pixel_bytes
returns-in-2 c = rw c.in-2.is

pub returns-in-3 : goal.returns-in-3
unfolding pixel_bytes
returns-in-3 c = rw c.in-3.is

pub returns-in-4 : goal.returns-in-4
unfolding pixel_bytes
returns-in-4 c = rw c.in-4.is

pub returns-in-8 : goal.returns-in-8
unfolding pixel_bytes
returns-in-8 c = rw c.in-8.is

pub returns-in-9 : goal.returns-in-9
unfolding pixel_bytes
returns-in-9 c = rw c.in-9.is

pub returns-in-10 : goal.returns-in-10
unfolding pixel_bytes
returns-in-10 c = rw c.in-10.is

pub returns-in-11 : goal.returns-in-11
unfolding pixel_bytes
returns-in-11 c = rw c.in-11.is

pub returns-in_default : goal.returns-in_default
unfolding pixel_bytes
returns-in_default c = search flags depth 14
