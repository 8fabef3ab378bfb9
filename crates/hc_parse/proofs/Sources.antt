-- What `parse` answers, from the checks and the grammar.
use Rattle.std.proofs.Common.{◌≡◌, ◌-◌, List, length, Result, Ok, Err, subst}
use Rattle.std.specs.Prelude.{IfOk, IfErr}
use Rattle.hc_tree.specs.declared.place.Place.{Place}
use Rattle.hc_tree.specs.declared.refusal.Refusal.{Refusal}
use Rattle.hc_tree.specs.declared.refusal.Rule.TheVariants.{S2}
use Rattle.hc_tree.specs.declared.refusal.Detail.TheVariants.{Nothing}
use Rattle.hc_tree.specs.declared.refusal.FrontErr.{FrontErr}
use Rattle.hc_tree.specs.declared.refusal.FrontErr.TheVariants.{Refused, NoMemory}
use Rattle.hc_tree.specs.declared.item.Tree.{Tree}
use Rattle.hc_lex.specs.declared.token.Placed.{Placed}
use Rattle.hc_grammar.specs.Table.{Reads, Stops, IsStop}
use Rattle.hc_grammar.specs.Form as f
use Rattle.hc_grammar.specs.Form.{Form, Gives}
use Rattle.hc_grammar.specs.Grammar.{grammar}
use Rattle.hc_grammar.specs.Cursor.{place_before}
use Rattle.hc_parse.specs.Checked.{Passes}
use Rattle.hc_parse.specs.Parsed.{Parses, FirstRefusal, of_grammar, IsTree}
use Rattle.hc_parse.specs.Refused.{IfRefused, IsRefusal}
use Rattle.hc_parse.proofs.Ends.{ReadsWhere, program_ends}
use Rattle.hc_parse.proofs.Firsts.{one_refusal, tree_or_refusal, unspelled}

-- ---- exactly one answer

pub only_tree : ((ts : List Placed) (tree other : Tree) → Parses ts tree → Parses ts other → tree ≡ other)
    → (ts : List Placed) (end : Place) (result : Result Tree FrontErr) → IfOk result (λ tree. Parses ts tree) → IfErr result (λ e. IfRefused e (FirstRefusal ts end))
    → (tree : Tree) → Parses ts tree → IsTree tree result
only_tree one ts end (Ok found) ok err tree parses = one ts found tree ok parses
only_tree one ts end (Err (Refused r)) ok err tree parses = tree_or_refusal ts end tree r parses err
only_tree one ts end (Err NoMemory) ok err tree parses = tt

pub only_refusal : (ts : List Placed) (end : Place) (result : Result Tree FrontErr) → IfOk result (λ tree. Parses ts tree) → IfErr result (λ e. IfRefused e (FirstRefusal ts end))
    → (r : Refusal) → FirstRefusal ts end r → IsRefusal r result
only_refusal ts end (Ok found) ok err r first = tree_or_refusal ts end found r ok first
only_refusal ts end (Err (Refused q)) ok err r first = one_refusal ts end q r err first
only_refusal ts end (Err NoMemory) ok err r first = tt

-- ---- the answer

-- a source that is read is a tree's
pub read_whole : ReadsWhere → {ts rest : List Placed} {tree : Tree} → Passes ts → Reads grammar f.program ts tree rest → Parses ts tree
read_whole read {ts} {rest} {tree} passes reads =
    record { words = passes.words; shallow = passes.shallow; spells = subst (Reads grammar f.program ts tree) (program_ends read ts rest tree reads) reads }

-- a source that stops is refused there
pub stopped : ((x : Form) (v : Gives x) (ts rest at : List Placed) → Reads grammar x ts v rest → Stops grammar x ts at → ⊥)
    → ((x : Form) (ts at : List Placed) → Stops grammar x ts at → IsStop grammar x ts (length ts - length at))
    → {ts at : List Placed} (end : Place) → Passes ts → Stops grammar f.program ts at
    → FirstRefusal ts end (record { rule = S2; place = place_before end at; detail = Nothing })
stopped never where_it {ts} {at} end passes stops = of_grammar passes.words passes.shallow (unspelled never where_it ts at end stops)
