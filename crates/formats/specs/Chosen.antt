-- The chooser: the paragraph below document 01's table 'Refusal numbers' that begins with it.
use Rattle.std.specs.Prelude.{ℕ, ◌+◌, List, take, drop}
use Rattle.switch.specs.Rows.{if_accepted}
use Rattle.formats.specs.PlanFile.{check_verdict}

-- The plan of a plan file: its last two blocks.
abbrev pub plan_blocks : List ℕ → List ℕ
plan_blocks file = take 1024 (drop 512 file)

-- Of a proposed and a running file, what is to be loaded: one thing of the first if it is accepted, otherwise one of the second
-- if that is, and otherwise another.
abbrev pub one_of : {A : Type 0} → List ℕ → List ℕ → A → A → A → A
one_of proposed running first second third =
    if_accepted (check_verdict proposed) first (if_accepted (check_verdict running) second third)

-- The bytes: the plan's blocks of the one or the other, or the empty beginning of the running file.
abbrev pub chosen : List ℕ → List ℕ → List ℕ
chosen proposed running = one_of proposed running (plan_blocks proposed) (plan_blocks running) (take 0 running)

-- Where they lie: a part of the one or the other file, never a copy. A place in memory is a block of it and an offset.
abbrev pub further : ℕ × ℕ → ℕ → ℕ × ℕ
further at by = (at.0, at.1 + by)

abbrev pub chosen_at : List ℕ → List ℕ → ℕ × ℕ → ℕ × ℕ → ℕ × ℕ
chosen_at proposed running first second = one_of proposed running (further first 512) (further second 512) second
