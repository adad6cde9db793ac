-- A contract that is an equation between the answer and a definition allows one answer only.
use mathlib.Core.Path.{◌≡◌, sym, ◌∙◌}

pub one_answer : {A : Type 0} {definition a b : A} → a ≡ definition → b ≡ definition → a ≡ b
one_answer p q = p ∙ sym q
