-- `read_rows` meets its contract: the numbers are those that were read.
use Rattle.std.proofs.Common.{◌∙◌, ap₂}
use Rattle.files.specs.Content.{content}
use Rattle.files.proofs.check.read_rows.Goals as goal

pub returns : goal.returns
returns c = c.content_rows.ensures ∙ ap₂ (content c.args.file.now) c.request_in.ensures c.plan_in.ensures
