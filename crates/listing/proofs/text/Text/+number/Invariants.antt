-- Each call takes a number's tenth.
use Rattle.listing.proofs.text.Text.+number.Given as goal

abbrev pub decreases-number : goal.decreases-number
decreases-number l = l.x
