-- The width of an element or a word is at most 128.
use Rattle.hc_core.proofs.StatementOperands.{to_element_width, to_word_width}
use Rattle.hc_core.proofs.measure.targets.target.Goals as goal

pub to_element-own-requires : goal.to_element-own-requires
to_element-own-requires c = rw c.width_at-width.ensures (to_element_width _ _ _ _ c.in-Element.is c.requires)

pub to_word-own-requires : goal.to_word-own-requires
to_word-own-requires c = rw c.width_at-in-Word.ensures (to_word_width _ _ _ _ c.in-Word.is c.requires)
