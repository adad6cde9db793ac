-- Row 7 goes on from the request's words to the spare ones, so these may be heard after all rows of the request.
use Rattle.std.proofs.Common.{◌≡◌, ℕ, List, [], ◌∷◌, refl, sym, ◌∙◌, ap}
use Rattle.switch.specs.RequestRows.{ports_row, capacity_row, demand_row, not_zero_row, request_verdict}
use Rattle.switch.specs.Rows.{row_verdict, or_else, verdict_of}
use Rattle.switch.proofs.Rows.{verdict_joined, verdict_append}
use Rattle.formats.specs.FileRows.{length_row, check_row, kind_row, spare_row}
use Rattle.formats.specs.RequestFile.{request_in, read_verdict}

pub read_in_order : (file : List ℕ)
    → or_else (verdict_of (length_row 512 file ∷ check_row 1 file ∷ kind_row (1 ∷ []) file ∷ []))
    (or_else (request_verdict (request_in file)) (row_verdict (spare_row 0 83 44 file))) ≡ read_verdict file
read_in_order file =
    let r = request_in file in
    let frame = length_row 512 file ∷ check_row 1 file ∷ kind_row (1 ∷ []) file ∷ [] in
    ap (or_else (verdict_of frame))
    (sym (verdict_joined (not_zero_row r) (spare_row 0 83 44 file) (ports_row r ∷ capacity_row r ∷ demand_row r ∷ []) refl))
    ∙ sym (verdict_append frame _)
