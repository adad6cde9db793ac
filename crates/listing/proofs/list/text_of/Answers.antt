-- A file that is accepted has a request within the limits.
use Rattle.listing.proofs.Read.{within_limits}
use Rattle.listing.proofs.list.text_of.Goals as goal

pub invariant_of-lines : goal.invariant_of-lines
invariant_of-lines c =
    record { within = within_limits c.args.file.now c.read_request-read.result c.read_request-read.ensures c.in-Accepted.is }
