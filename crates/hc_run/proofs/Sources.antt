-- A source has one core or one first refusal, and not both.
use Rattle.std.proofs.Common.{◌≡◌, ◌⊎◌, inl, inr, ℕ, ◌≤◌, ◌<◌, List, Option, Some, None, Result, Ok, Err, IfOk, IfErr, refl, sym, subst, ap, ◌∙◌, arith}
use Rattle.std.proofs.lemmas.Bool.{cases_lt}
use Rattle.std.specs.List.{All}
use Rattle.hc_core.specs.Depends.{Cyclic}
use Rattle.hc_core.specs.Weight.{weight_of}
use Rattle.hc_core.specs.declared.object.Core.{Core}
use Rattle.hc_lex.specs.Lexes.{Lexes, Stops, HasTokens, HasBreach, IsPlain}
use Rattle.hc_lex.specs.Place.{start}
use Rattle.hc_lex.specs.declared.token.Placed.{Placed}
use Rattle.hc_tree.specs.declared.place.Place.{Place}
use Rattle.hc_tree.specs.declared.refusal.Detail.{Detail}
use Rattle.hc_tree.specs.declared.refusal.Detail.TheVariants.{Nothing}
use Rattle.hc_tree.specs.declared.refusal.FrontErr.{FrontErr}
use Rattle.hc_tree.specs.declared.refusal.FrontErr.TheVariants.{Refused, NoMemory}
use Rattle.hc_tree.specs.declared.refusal.Refusal.{Refusal}
use Rattle.hc_tree.specs.declared.refusal.Rule.{Rule}
use Rattle.hc_tree.specs.declared.item.Tree.{Tree}
use Rattle.hc_parse.specs.Parsed.{Parses, FirstRefusal, HasTree, HasFirst}
use Rattle.hc_scope.specs.Expands as expansion
use Rattle.hc_expand.specs.Spelled.{IsSpelled}
use Rattle.hc_core.specs.Rules.{first_broken}
use Rattle.hc_cycle.specs.Order.{NamesCycle}
use Rattle.hc_rules.specs.Weight.{most_weight, too_heavy}
use Rattle.hc_run.specs.Answer.{IsSource, Accepted, BreaksTokens, AreAlike, FirstOfCore, of_rule, of_cycle, of_weight, of_form, not_built, FirstOfTokens, of_grammar, of_tree, of_core, First, of_bytes, of_tokens, IfRefusal, HasCore, HasRefusal}
use Rattle.hc_build.specs.Built.{unbuilt, IsBuildable}
use Rattle.hc_run.specs.Weighed.{Weighs, TokensWeigh, TreeWeighs}
use Rattle.hc_run.specs.Source.{IsTreeOf, FirstOfTree, of_expansion, of_expanded, IsUnbuilt}

-- ---- the tokens of a source spell its tree as `expand` asks

pub spelled : (ts : List Placed) (tree : Tree) → Parses ts tree → All IsPlain ts → IsSpelled tree
spelled ts tree parses plain = record { tokens = ts; spells = parses.spells; plain = plain }

-- ---- what is read of the tokens is so of the bytes

pub accepted : (bytes : List ℕ) (h : HasTokens 0 start bytes) (result : Result Core FrontErr) → IfOk result (IsSource h.tokens) → IfOk result (Accepted bytes)
accepted bytes h (Ok core) e = record { lexed = h; source = e }
accepted bytes h (Err e) f = tt

pub refused : {A : Type 0} (bytes : List ℕ) (h : HasTokens 0 start bytes) (result : Result A FrontErr) → IfErr result (λ e. IfRefusal e (FirstOfTokens h.tokens h.end)) → IfErr result (λ e. IfRefusal e (First bytes))
refused bytes h (Ok found) f = tt
refused bytes h (Err (Refused refusal)) f = of_tokens (record { lexed = h; breaks = f })
refused bytes h (Err NoMemory) f = tt

-- ---- what is read of the tree is so of the tokens

pub source : (ts : List Placed) (tree : Tree) → Parses ts tree → (result : Result Core FrontErr) → IfOk result (IsTreeOf tree) → IfOk result (IsSource ts)
source ts tree parses (Ok core) e = record { has_tree = record { tree = tree; parses = parses }; expands = e.expands; rules = e.rules; acyclic = e.acyclic; light = e.light; built = e.built }
source ts tree parses (Err e) f = tt

broken_tree : (ts : List Placed) (end : Place) (tree : Tree) → Parses ts tree → (refusal : Refusal) → FirstOfTree tree refusal → FirstOfTokens ts end refusal
broken_tree ts end tree parses refusal (of_expansion stops) = of_tree (record { has_tree = record { tree = tree; parses = parses }; stops = stops })
broken_tree ts end tree parses refusal (of_expanded core expands breaks) =
    of_core (record { has_tree = record { tree = tree; parses = parses }; core = core; expands = expands; breaks = breaks })

pub broken : {A : Type 0} (ts : List Placed) (end : Place) (tree : Tree) → Parses ts tree → (result : Result A FrontErr) → IfErr result (λ e. IfRefusal e (FirstOfTree tree))
    → IfErr result (λ e. IfRefusal e (FirstOfTokens ts end))
broken ts end tree parses (Ok found) f = tt
broken ts end tree parses (Err (Refused refusal)) f = broken_tree ts end tree parses refusal f
broken ts end tree parses (Err NoMemory) f = tt

-- ---- what is read of the core is so of the tree

pub tree_of : (tree : Tree) (core : Core) → expansion.Expands tree core → (result : Result Core FrontErr) → IfOk result (λ found. found ≡ core) → IfOk result (λ found. first_broken found ≡ None)
    → IfOk result (λ found. Cyclic found → ⊥) → IfOk result IsBuildable → IfOk result (IsTreeOf tree)
tree_of tree core expands (Ok found) same rules acyclic buildable = record { expands = subst (λ (c : Core). expansion.Expands tree c) (sym same) expands; rules = rules; acyclic = acyclic; light = buildable.light; built = buildable.built }
tree_of tree core expands (Err e) same rules acyclic buildable = tt

pub broken_core : (tree : Tree) (core : Core) → expansion.Expands tree core → (result : Result Core FrontErr) → IfErr result (λ e. IfRefusal e (FirstOfCore core))
    → IfErr result (λ e. IfRefusal e (FirstOfTree tree))
broken_core tree core expands (Ok found) f = tt
broken_core tree core expands (Err (Refused refusal)) f = of_expanded core expands f
broken_core tree core expands (Err NoMemory) f = tt

-- what of its form comes behind its weight
pub broken_form : {A : Type 0} (core : Core) → first_broken core ≡ None → (Cyclic core → ⊥) → weight_of core ≤ most_weight → (result : Result A Refusal) → IfErr result (IsUnbuilt core) → IfErr result (FirstOfCore core)
broken_form core rules acyclic light (Ok found) f = tt
broken_form core rules acyclic light (Err refusal) f = of_form rules acyclic light f.place f.first f.is

-- ---- what is weighed

pub tree_weighed : (ts : List Placed) (tree : Tree) → Parses ts tree → (result : Result ℕ FrontErr) → IfOk result (TreeWeighs tree) → IfOk result (TokensWeigh ts)
tree_weighed ts tree parses (Ok weight) h = record { has_tree = record { tree = tree; parses = parses }; tree = h }
tree_weighed ts tree parses (Err e) h = tt

pub tokens_weighed : (bytes : List ℕ) (h : HasTokens 0 start bytes) (result : Result ℕ FrontErr) → IfOk result (TokensWeigh h.tokens) → IfOk result (Weighs bytes)
tokens_weighed bytes h (Ok weight) k = record { lexed = h; tokens = k }
tokens_weighed bytes h (Err e) k = tt

-- ---- the laws, from those of the tokens

abbrev pub OneReading : Type 0
OneReading = (at : Place) (bytes : List ℕ) (ts us : List Placed) (end other : Place) → Lexes at bytes ts end → Lexes at bytes us other → (ts ≡ us) × (end ≡ other)

abbrev pub OneBreach : Type 0
OneBreach = (before : ℕ) (at : Place) (bytes : List ℕ) (rule other : Rule) (place behind : Place) → Stops before at bytes rule place → Stops before at bytes other behind → (rule ≡ other) × (place ≡ behind)

abbrev pub NotBoth : Type 0
NotBoth = (before : ℕ) (at : Place) (bytes : List ℕ) → HasTokens before at bytes → HasBreach before at bytes → ⊥

abbrev pub OneOf : Type 0
OneOf = (before : ℕ) (at : Place) (bytes : List ℕ) → before ≤ 1000000 → HasTokens before at bytes ⊎ HasBreach before at bytes

-- ---- those of the trees

abbrev pub OneTree : Type 0
OneTree = (ts : List Placed) (tree other : Tree) → Parses ts tree → Parses ts other → tree ≡ other

abbrev pub OneRefusal : Type 0
OneRefusal = (ts : List Placed) (end : Place) (refusal other : Refusal) → FirstRefusal ts end refusal → FirstRefusal ts end other → refusal ≡ other

abbrev pub NoRefusal : Type 0
NoRefusal = (ts : List Placed) (end : Place) (tree : Tree) (refusal : Refusal) → Parses ts tree → FirstRefusal ts end refusal → ⊥

abbrev pub TreeOrRefusal : Type 0
TreeOrRefusal = (ts : List Placed) (end : Place) → HasTree ts ⊎ HasFirst ts end

-- ---- and those of the cores

abbrev pub OneCore : Type 0
OneCore = (tree : Tree) (core other : Core) → expansion.Expands tree core → expansion.Expands tree other → core ≡ other

abbrev pub OneStop : Type 0
OneStop = (tree : Tree) (refusal other : Refusal) → expansion.Stops tree refusal → expansion.Stops tree other → refusal ≡ other

abbrev pub NoStop : Type 0
NoStop = (tree : Tree) (core : Core) (refusal : Refusal) → expansion.Expands tree core → expansion.Stops tree refusal → ⊥

abbrev pub CoreOrStop : Type 0
CoreOrStop = (tree : Tree) → ((core : Core) × expansion.Expands tree core) ⊎ ((refusal : Refusal) × expansion.Stops tree refusal)

-- ---- one core

same_tokens : OneReading → {bytes : List ℕ} (h k : HasTokens 0 start bytes) → (h.tokens ≡ k.tokens) × (h.end ≡ k.end)
same_tokens reading {bytes} h k = reading start bytes h.tokens k.tokens h.end k.end h.reads k.reads

-- two trees of the same tokens are one
same_tree : OneTree → (ts : List Placed) (h k : HasTree ts) → h.tree ≡ k.tree
same_tree one ts h k = one ts h.tree k.tree h.parses k.parses

-- what a tree expands to, and what it is refused for, is so of an equal tree
moved_core : (tree other : Tree) (core : Core) → tree ≡ other → expansion.Expands tree core → expansion.Expands other core
moved_core tree other core e h = subst (λ (t : Tree). expansion.Expands t core) e h

moved_stop : (tree other : Tree) (refusal : Refusal) → tree ≡ other → expansion.Stops tree refusal → expansion.Stops other refusal
moved_stop tree other refusal e h = subst (λ (t : Tree). expansion.Stops t refusal) e h

one_source : OneTree → OneCore → (ts : List Placed) (core other : Core) → IsSource ts core → IsSource ts other → core ≡ other
one_source trees one ts core other h k = one k.has_tree.tree core other (moved_core _ _ _ (same_tree trees ts h.has_tree k.has_tree) h.expands) k.expands

pub one_core : OneReading → OneTree → OneCore → (bytes : List ℕ) (core other : Core) → Accepted bytes core → Accepted bytes other → core ≡ other
one_core reading trees one bytes core other h k =
    one_source trees one k.lexed.tokens core other (subst (λ (ts : List Placed). IsSource ts core) (same_tokens reading h.lexed k.lexed).0 h.source) k.source

-- ---- never both

breach : {bytes : List ℕ} {refusal : Refusal} → BreaksTokens bytes refusal → HasBreach 0 start bytes
breach {refusal = refusal} h = record { rule = refusal.rule; place = refusal.place; stops = h.stops }

-- what the tokens of one reading break is so of those of another
moved : (ts us : List Placed) (end other : Place) (refusal : Refusal) → ts ≡ us → end ≡ other → FirstOfTokens ts end refusal → FirstOfTokens us other refusal
moved ts us end other refusal e f h = subst (λ a. FirstOfTokens us a refusal) f (subst (λ (z : List Placed). FirstOfTokens z end refusal) e h)

none_and_some : {A : Type 0} {o : Option A} {a : A} → o ≡ None → o ≡ Some a → ⊥
none_and_some p q = cc

-- a refusal that names a cycle tells that some value reaches itself
abbrev pub CyclesReach : Type 0
CyclesReach = (core : Core) (refusal : Refusal) → NamesCycle core refusal → Cyclic core

abbrev pub CycleOrNone : Type 0
CycleOrNone = (core : Core) → ((refusal : Refusal) × NamesCycle core refusal) ⊎ (Cyclic core → ⊥)

sound_core : CyclesReach → (core : Core) (refusal : Refusal) → first_broken core ≡ None → (Cyclic core → ⊥) → weight_of core ≤ most_weight → unbuilt core ≡ None → FirstOfCore core refusal → ⊥
sound_core reach core refusal rules acyclic light built (of_rule broken) = none_and_some rules broken
sound_core reach core refusal rules acyclic light built (of_cycle kept names) = acyclic (reach core refusal names)
sound_core reach core refusal rules acyclic light built (of_weight kept none heavy is) = omega arith
sound_core reach core refusal rules acyclic light built (of_form kept none within place first is) = none_and_some built first

source_or_refusal : CyclesReach → OneTree → NoRefusal → OneCore → NoStop → (ts : List Placed) (end : Place) (core : Core) (refusal : Refusal) → IsSource ts core → FirstOfTokens ts end refusal → ⊥
source_or_refusal reach trees none one no_stop ts end core refusal h (of_grammar k) = none ts end h.has_tree.tree refusal h.has_tree.parses k
source_or_refusal reach trees none one no_stop ts end core refusal h (of_tree k) =
    no_stop k.has_tree.tree core refusal (moved_core _ _ _ (same_tree trees ts h.has_tree k.has_tree) h.expands) k.stops
source_or_refusal reach trees none one no_stop ts end core refusal h (of_core k) =
    let same : k.core ≡ core = one k.has_tree.tree k.core core k.expands (moved_core _ _ _ (same_tree trees ts h.has_tree k.has_tree) h.expands) in
    sound_core reach core refusal h.rules h.acyclic h.light h.built (subst (λ (c : Core). FirstOfCore c refusal) same k.breaks)

pub never_both : CyclesReach → OneReading → NotBoth → OneTree → NoRefusal → OneCore → NoStop → (bytes : List ℕ) (core : Core) (refusal : Refusal) → Accepted bytes core → First bytes refusal → ⊥
never_both reach reading both trees none one no_stop bytes core refusal h (of_bytes k) = both 0 start bytes h.lexed (breach k)
never_both reach reading both trees none one no_stop bytes core refusal h (of_tokens k) =
    let same = same_tokens reading k.lexed h.lexed in
    source_or_refusal reach trees none one no_stop h.lexed.tokens h.lexed.end core refusal h.source (moved k.lexed.tokens h.lexed.tokens k.lexed.end h.lexed.end refusal same.0 same.1 k.breaks)

-- ---- one first refusal

abbrev refusal_of : Rule → Place → Detail → Refusal
refusal_of rule place detail = record { rule = rule; place = place; detail = detail }

same_refusal : {r s : Refusal} → r.rule ≡ s.rule → r.place ≡ s.place → r.detail ≡ s.detail → r ≡ s
same_refusal {r} {s} a b c = ap (λ rule. refusal_of rule r.place r.detail) a ∙ ap (λ place. refusal_of s.rule place r.detail) b ∙ ap (refusal_of s.rule s.place) c

same_some : {A : Type 0} {o : Option A} {a b : A} → o ≡ Some a → o ≡ Some b → a ≡ b
same_some p q = cc

one_of_core : CyclesReach → (core : Core) (refusal other : Refusal) → FirstOfCore core refusal → FirstOfCore core other → AreAlike refusal other
one_of_core reach core refusal other (of_rule first) (of_rule second) = inl (same_some first second)
one_of_core reach core refusal other (of_rule first) (of_cycle rules names) = absurd (none_and_some rules first)
one_of_core reach core refusal other (of_rule first) (of_weight rules acyclic heavy is) = absurd (none_and_some rules first)
one_of_core reach core refusal other (of_rule first) (of_form rules acyclic light place second is) = absurd (none_and_some rules first)
one_of_core reach core refusal other (of_cycle rules names) (of_rule second) = absurd (none_and_some rules second)
one_of_core reach core refusal other (of_cycle rules names) (of_cycle kept more) = inr (ap (λ (r : Refusal). r.rule) names.is, ap (λ (r : Refusal). r.rule) more.is)
one_of_core reach core refusal other (of_cycle rules names) (of_weight kept acyclic heavy is) = absurd (acyclic (reach core refusal names))
one_of_core reach core refusal other (of_cycle rules names) (of_form kept acyclic light place second is) = absurd (acyclic (reach core refusal names))
one_of_core reach core refusal other (of_weight rules acyclic heavy is) (of_rule second) = absurd (none_and_some rules second)
one_of_core reach core refusal other (of_weight rules acyclic heavy is) (of_cycle kept names) = absurd (acyclic (reach core other names))
one_of_core reach core refusal other (of_weight rules acyclic heavy is) (of_weight kept none more same) = inl (is ∙ sym same)
one_of_core reach core refusal other (of_weight rules acyclic heavy is) (of_form kept none light place first same) = absurd (omega arith)
one_of_core reach core refusal other (of_form rules acyclic light place first is) (of_rule second) = absurd (none_and_some rules second)
one_of_core reach core refusal other (of_form rules acyclic light place first is) (of_cycle kept names) = absurd (acyclic (reach core other names))
one_of_core reach core refusal other (of_form rules acyclic light place first is) (of_weight kept none heavy same) = absurd (omega arith)
one_of_core reach core refusal other (of_form rules acyclic light place first is) (of_form kept none within behind second same) = inl (is ∙ ap not_built (same_some first second) ∙ sym same)

module _ (reach : CyclesReach) (trees : OneTree) (one : OneRefusal) (none : NoRefusal) (cores : OneCore) (stops : OneStop) (no_stop : NoStop) where
  one_of_tokens : (ts : List Placed) (end : Place) (refusal other : Refusal) → FirstOfTokens ts end refusal → FirstOfTokens ts end other → AreAlike refusal other
  one_of_tokens ts end refusal other (of_grammar h) (of_grammar k) = inl (one ts end refusal other h k)
  one_of_tokens ts end refusal other (of_grammar h) (of_tree k) = absurd (none ts end k.has_tree.tree refusal k.has_tree.parses h)
  one_of_tokens ts end refusal other (of_grammar h) (of_core k) = absurd (none ts end k.has_tree.tree refusal k.has_tree.parses h)
  one_of_tokens ts end refusal other (of_tree h) (of_grammar k) = absurd (none ts end h.has_tree.tree other h.has_tree.parses k)
  one_of_tokens ts end refusal other (of_tree h) (of_tree k) = inl (stops k.has_tree.tree refusal other (moved_stop _ _ _ (same_tree trees ts h.has_tree k.has_tree) h.stops) k.stops)
  one_of_tokens ts end refusal other (of_tree h) (of_core k) =
      absurd (no_stop k.has_tree.tree k.core refusal k.expands (moved_stop _ _ _ (same_tree trees ts h.has_tree k.has_tree) h.stops))
  one_of_tokens ts end refusal other (of_core h) (of_grammar k) = absurd (none ts end h.has_tree.tree other h.has_tree.parses k)
  one_of_tokens ts end refusal other (of_core h) (of_tree k) =
      absurd (no_stop k.has_tree.tree h.core other (moved_core _ _ _ (same_tree trees ts h.has_tree k.has_tree) h.expands) k.stops)
  one_of_tokens ts end refusal other (of_core h) (of_core k) =
      let same : h.core ≡ k.core = cores k.has_tree.tree h.core k.core (moved_core _ _ _ (same_tree trees ts h.has_tree k.has_tree) h.expands) k.expands in
      one_of_core reach k.core refusal other (subst (λ (c : Core). FirstOfCore c refusal) same h.breaks) k.breaks

  pub one_first : OneReading → OneBreach → NotBoth → (bytes : List ℕ) (refusal other : Refusal) → First bytes refusal → First bytes other → AreAlike refusal other
  one_first reading breaks both bytes refusal other (of_bytes h) (of_bytes k) =
      let same = breaks 0 start bytes refusal.rule other.rule refusal.place other.place h.stops k.stops in
      inl (same_refusal same.0 same.1 (h.detail ∙ sym k.detail))
  one_first reading breaks both bytes refusal other (of_bytes h) (of_tokens k) = absurd (both 0 start bytes k.lexed (breach h))
  one_first reading breaks both bytes refusal other (of_tokens h) (of_bytes k) = absurd (both 0 start bytes h.lexed (breach k))
  one_first reading breaks both bytes refusal other (of_tokens h) (of_tokens k) =
      let same = same_tokens reading h.lexed k.lexed in
      one_of_tokens k.lexed.tokens k.lexed.end refusal other (moved h.lexed.tokens k.lexed.tokens h.lexed.end k.lexed.end refusal same.0 same.1 h.breaks) k.breaks

-- ---- a core or a refusal

of_built : (bytes : List ℕ) (h : HasTokens 0 start bytes) (t : HasTree h.tokens) (core : Core) → expansion.Expands t.tree core → first_broken core ≡ None → (Cyclic core → ⊥) → weight_of core ≤ most_weight
    → (o : Option Place) → unbuilt core ≡ o → HasCore bytes ⊎ HasRefusal bytes
of_built bytes h t core expands rules acyclic light None e =
    inl (record { core = core; accepted = record { lexed = h; source = record { has_tree = t; expands = expands; rules = rules; acyclic = acyclic; light = light; built = e } } })
of_built bytes h t core expands rules acyclic light (Some place) e =
    inr (record { refusal = not_built place; first = of_tokens (record { lexed = h; breaks = of_core (record { has_tree = t; core = core; expands = expands; breaks = of_form rules acyclic light place e refl }) }) })

of_weighed : (bytes : List ℕ) (h : HasTokens 0 start bytes) (t : HasTree h.tokens) (core : Core) → expansion.Expands t.tree core → first_broken core ≡ None → (Cyclic core → ⊥)
    → (most_weight < weight_of core) ⊎ (weight_of core ≤ most_weight) → HasCore bytes ⊎ HasRefusal bytes
of_weighed bytes h t core expands rules acyclic (inr light) = of_built bytes h t core expands rules acyclic light (unbuilt core) refl
of_weighed bytes h t core expands rules acyclic (inl heavy) =
    inr (record { refusal = too_heavy; first = of_tokens (record { lexed = h; breaks = of_core (record { has_tree = t; core = core; expands = expands; breaks = of_weight rules acyclic heavy refl }) }) })

of_valued : (bytes : List ℕ) (h : HasTokens 0 start bytes) (t : HasTree h.tokens) (core : Core) → expansion.Expands t.tree core → first_broken core ≡ None
    → ((refusal : Refusal) × NamesCycle core refusal) ⊎ (Cyclic core → ⊥) → HasCore bytes ⊎ HasRefusal bytes
of_valued bytes h t core expands rules (inr acyclic) = of_weighed bytes h t core expands rules acyclic (cases_lt most_weight (weight_of core))
of_valued bytes h t core expands rules (inl c) =
    inr (record { refusal = c.0; first = of_tokens (record { lexed = h; breaks = of_core (record { has_tree = t; core = core; expands = expands; breaks = of_cycle rules c.1 }) }) })

of_ruled : CycleOrNone → (bytes : List ℕ) (h : HasTokens 0 start bytes) (t : HasTree h.tokens) (core : Core) → expansion.Expands t.tree core → (o : Option Refusal) → first_broken core ≡ o
    → HasCore bytes ⊎ HasRefusal bytes
of_ruled cycles bytes h t core expands None e = of_valued bytes h t core expands e (cycles core)
of_ruled cycles bytes h t core expands (Some refusal) e =
    inr (record { refusal = refusal; first = of_tokens (record { lexed = h; breaks = of_core (record { has_tree = t; core = core; expands = expands; breaks = of_rule e }) }) })

of_expansion_or : CycleOrNone → (bytes : List ℕ) (h : HasTokens 0 start bytes) (t : HasTree h.tokens) → ((core : Core) × expansion.Expands t.tree core) ⊎ ((refusal : Refusal) × expansion.Stops t.tree refusal)
    → HasCore bytes ⊎ HasRefusal bytes
of_expansion_or cycles bytes h t (inl k) = of_ruled cycles bytes h t k.0 k.1 (first_broken k.0) refl
of_expansion_or cycles bytes h t (inr k) = inr (record { refusal = k.0; first = of_tokens (record { lexed = h; breaks = of_tree (record { has_tree = t; stops = k.1 }) }) })

of_tree_or_refusal : CycleOrNone → CoreOrStop → (bytes : List ℕ) (h : HasTokens 0 start bytes) → HasTree h.tokens ⊎ HasFirst h.tokens h.end → HasCore bytes ⊎ HasRefusal bytes
of_tree_or_refusal cycles cores bytes h (inl t) = of_expansion_or cycles bytes h t (cores t.tree)
of_tree_or_refusal cycles cores bytes h (inr f) = inr (record { refusal = f.refusal; first = of_tokens (record { lexed = h; breaks = of_grammar f.first }) })

either_by : CycleOrNone → TreeOrRefusal → CoreOrStop → (bytes : List ℕ) → HasTokens 0 start bytes ⊎ HasBreach 0 start bytes → HasCore bytes ⊎ HasRefusal bytes
either_by cycles trees cores bytes (inl h) = of_tree_or_refusal cycles cores bytes h (trees h.tokens h.end)
either_by cycles trees cores bytes (inr h) = inr (record { refusal = refusal_of h.rule h.place Nothing; first = of_bytes (record { stops = h.stops; detail = refl }) })

pub core_or_refusal : CycleOrNone → OneOf → TreeOrRefusal → CoreOrStop → (bytes : List ℕ) → HasCore bytes ⊎ HasRefusal bytes
core_or_refusal cycles lexes trees cores bytes = either_by cycles trees cores bytes (lexes 0 start bytes (omega arith))
