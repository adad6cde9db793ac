-- The two values that refusals hand back, from the text below document 01's table 'Refusal numbers'.
use Rattle.std.specs.Prelude.{replicate}
use Rattle.switch.specs.declared.plan.Plan.{Plan}
use Rattle.switch.specs.declared.request.Request.{Request}

-- What stands for a request where reading one was refused: nothing but zeros.
abbrev pub zero_request : Request
zero_request =
    record { m = 0; n = 0; inputs = replicate 8 0; outputs = replicate 8 0; demands = replicate 64 0 }

-- What stands for a plan where planning was refused: base 1, and zeros for every rate and every reason.
abbrev pub empty_plan : Plan
empty_plan = record { base = 1; numerators = replicate 64 0; reasons = replicate 64 0 }
