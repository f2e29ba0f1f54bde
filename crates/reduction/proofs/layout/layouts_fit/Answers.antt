use Rattle.reduction.proofs.Fitting.{fits}
use Rattle.reduction.proofs.layout.layouts_fit.Goals as goal

pub returns : goal.returns
returns c = fits
