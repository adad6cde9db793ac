-- The table is filled from the front.
use Rattle.std.proofs.Common.{ℕ, ◌+◌, ◌*◌, ◌/◌, ◌%◌, ◌<◌, slice_index_or}
use Rattle.files.proofs.read.cells.Given as goal

abbrev pub invariant-loop-half : goal.invariant-loop-half
invariant-loop-half g l =
    (c : ℕ) → c < 32 * l.half → goal.F-post g l.at (c / 32) (c % 32) (slice_index_or l.table c l.fn.none)

abbrev pub invariant-loop-i : goal.invariant-loop-i
invariant-loop-i g l =
    (c : ℕ) → c < 32 * l.half + l.i → goal.F-post g l.at (c / 32) (c % 32) (slice_index_or l.table c l.fn.none)
