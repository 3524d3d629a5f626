use Rattle.jfr_rewrite.proofs.SizeLaws.{fits_is_shifted}
use Rattle.jfr_rewrite.proofs.size.fits.Goals as goal

pub returns-else-count-eq9 : goal.returns-else-count-eq9
returns-else-count-eq9 c = fits_is_shifted c.args.value c.args.count c.if-count-eq9.false
