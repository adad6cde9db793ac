-- A flow's stage as a number: below 20 it has stopped at that limit; at 20 it rises; at 21 it has stopped at its demand; at 22 it
-- waits at its minimum, and at 23 it has stopped there.
use Rattle.std.specs.Prelude.{ℕ, ◌<◌}
use Rattle.planner.specs.declared.stage.Kind.{Kind}
use Rattle.planner.specs.declared.stage.Kind.TheVariants.{Rising, Waiting, Held, Met, Stopped}

abbrev pub number_of : Kind → ℕ
number_of (Stopped limit) = limit
number_of Rising = 20
number_of Met = 21
number_of Waiting = 22
number_of Held = 23

-- A flow stops at limits only, so that the number tells the kind.
abbrev pub Numbered : Kind → Type 0
Numbered (Stopped limit) = limit < 20
Numbered Rising = Unit {0}
Numbered Met = Unit {0}
Numbered Waiting = Unit {0}
Numbered Held = Unit {0}
