-- `check` meets its contract: what the frame refuses is refused, and after it the contents decide.
use Rattle.std.proofs.Common.{refl, ◌∙◌}
use Rattle.files.proofs.Checked.{frame_refuses, content_decides}
use Rattle.files.proofs.check.check.Goals as goal

pub returns-in_err-frame_rows : goal.returns-in_err-frame_rows
returns-in_err-frame_rows c =
    c.from_residual.ensures ∙ frame_refuses c.args.file.now c.frame_rows.ensures c.in_err-frame_rows.ensures

pub returns : goal.returns
returns c =
    content_decides c.args.file.now c.frame_rows.ensures c.in_ok-frame_rows.ensures refl refl c.read_rows.ensures
