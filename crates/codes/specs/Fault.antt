-- What is wrong where, of a request file that is to be turned into a plan file: rows 1 to 7 and 16 of document 01's table
-- 'Refusal numbers', said without any search.
use Rattle.std.specs.Prelude.{ℕ, ◌<◌, List, length}
use Rattle.formats.specs.Fault.{FileFault}

pub data LaidFault (file buffer : List ℕ) : ℕ → ℕ → Type 0 where
  of_file : {k p : ℕ} → FileFault file k p → LaidFault file buffer k p
  room : length buffer < 1536 → LaidFault file buffer 16 0
