-- Everything that is to be shown of listings.
use Rattle.texts.specs.Shown.{ListingShown}
use Rattle.texts.proofs.Decimal.{decimal_is_numeral}
use Rattle.texts.proofs.Fits.{text_fits}
use Rattle.texts.proofs.Room.{accepted_exactly, written, without_room, rest_kept}
use Rattle.texts.proofs.Texts.{drawn, wide, planned, lines, last, refused}

pub listing_shown : ListingShown
listing_shown =
    record {
      drawn = drawn;
      wide = wide;
      planned = planned;
      lines = lines;
      last = last;
      refused = refused;
      numbers = decimal_is_numeral;
      fits = text_fits;
      accepted = accepted_exactly;
      written = written;
      without_room = without_room;
      rest_kept = rest_kept;
    }
