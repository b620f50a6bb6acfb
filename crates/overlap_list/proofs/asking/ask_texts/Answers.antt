use Rattle.overlap_list.proofs.Texts.{texts_asked}
use Rattle.overlap_list.proofs.asking.ask_texts.Goals as goal

pub returns : goal.returns
returns c = texts_asked c.note_texts-noted.ensures c.all_lines.ensures.0
