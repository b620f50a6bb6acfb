use Rattle.demands.specs.LibraryCommitting.{library_committing}
use Rattle.demands.proofs.library_commit.Goals as goal

pub returns : goal.returns
returns c = library_committing c.yopobrush_commit_overlaps.ensures
