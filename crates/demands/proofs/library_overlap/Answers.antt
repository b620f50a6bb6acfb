use Rattle.demands.specs.Library.{library_meets}
use Rattle.demands.proofs.library_overlap.Goals as goal

pub returns : goal.returns
returns c = library_meets c.yopobrush_texts_overlap.ensures
