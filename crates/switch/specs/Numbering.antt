-- The number that the refusal table gives to each cause.
use Rattle.std.specs.Prelude.{ℕ}
use Rattle.switch.specs.declared.verdict.Cause.{Cause}

-- The first column of document 01's table 'Refusal numbers'.
abbrev pub number_of : Cause → ℕ
number_of Cause.Length = 1
number_of Cause.Check = 2
number_of Cause.Kind = 3
number_of Cause.Ports = 4
number_of Cause.Capacity = 5
number_of Cause.Demand = 6
number_of Cause.NotZero = 7
number_of Cause.Base = 8
number_of Cause.BaseDiffers = 9
number_of Cause.ReasonRange = 10
number_of Cause.AboveDemand = 11
number_of Cause.InputOver = 12
number_of Cause.OutputOver = 13
number_of Cause.NoBottleneck = 14
number_of Cause.WrongReason = 15
number_of Cause.Room = 16
