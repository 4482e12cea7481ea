use Rattle.buffer.proofs.WholeLaws.{fits_past, fits_from}
use Rattle.buffer.proofs.fits.Goals as goal

pub returns-then-len-at : goal.returns-then-len-at
returns-then-len-at c = search fits_past

pub returns-else-len-at : goal.returns-else-len-at
returns-else-len-at c = search fits_from
