use Rattle.overlap_list.proofs.Texts.{texts_commit}
use Rattle.overlap_list.proofs.asking.commit_texts.Goals as goal

pub returns : goal.returns
returns c = texts_commit c.note_texts-noted.ensures c.commit_pair.ensures
