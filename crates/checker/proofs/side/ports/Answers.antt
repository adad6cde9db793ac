-- Each entry of the table is a port.
use Rattle.std.proofs.Common.{rules}
use Rattle.switch.proofs.Made.{made_each}
use Rattle.worked.specs.Port.{no_port}
use Rattle.checker.proofs.side.ports.Goals as goal

pub returns : goal.returns
returns g c = made_each _ _ _ _ (λ i y t h called. search rules) c.from_fn.ensures.items no_port
