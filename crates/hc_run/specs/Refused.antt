-- The line of a refusal, with its line feed. Its form is this project's own.
use Rattle.std.specs.Prelude.{ℕ, List, [], ◌++◌, codes, decimal}
use Rattle.std.specs.List.{flat_map}
use Rattle.hc_tree.specs.declared.refusal.Rule.{Rule}
use Rattle.hc_tree.specs.declared.refusal.Rule.TheVariants.{S1, S2, S3, S4, S5, S6, S7, S8, S9, S10, S11, S12, S13, S14, S15, S16, S17, S18, S19, S20, S21, S22, S23, S24, L1, L2, L3, L4, L5, L6, L7, L8, L9, NotBuilt}
use Rattle.hc_tree.specs.declared.refusal.Node.{Node}
use Rattle.hc_tree.specs.declared.refusal.Node.TheVariants.{Value, Sends, Receives}
use Rattle.hc_tree.specs.declared.refusal.Detail.{Detail}
use Rattle.hc_tree.specs.declared.refusal.Detail.TheVariants.{Nothing, Name, Pair, Cycle}
use Rattle.hc_tree.specs.declared.refusal.Refusal.{Refusal}

-- the name of a rule
unfoldable pub rule_name : Rule → List ℕ
rule_name S1 = codes "S1"
rule_name S2 = codes "S2"
rule_name S3 = codes "S3"
rule_name S4 = codes "S4"
rule_name S5 = codes "S5"
rule_name S6 = codes "S6"
rule_name S7 = codes "S7"
rule_name S8 = codes "S8"
rule_name S9 = codes "S9"
rule_name S10 = codes "S10"
rule_name S11 = codes "S11"
rule_name S12 = codes "S12"
rule_name S13 = codes "S13"
rule_name S14 = codes "S14"
rule_name S15 = codes "S15"
rule_name S16 = codes "S16"
rule_name S17 = codes "S17"
rule_name S18 = codes "S18"
rule_name S19 = codes "S19"
rule_name S20 = codes "S20"
rule_name S21 = codes "S21"
rule_name S22 = codes "S22"
rule_name S23 = codes "S23"
rule_name S24 = codes "S24"
rule_name L1 = codes "L1"
rule_name L2 = codes "L2"
rule_name L3 = codes "L3"
rule_name L4 = codes "L4"
rule_name L5 = codes "L5"
rule_name L6 = codes "L6"
rule_name L7 = codes "L7"
rule_name L8 = codes "L8"
rule_name L9 = codes "L9"
rule_name NotBuilt = codes "NotBuilt"

-- what stands behind the name of a node's object: nothing behind a signal, RAM or ROM, `!` behind the sends of a
-- channel and `?` behind its receives
unfoldable pub node_mark : Node → List ℕ
node_mark (Value k) = []
node_mark (Sends k) = codes "!"
node_mark (Receives k) = codes "?"

unfoldable pub node_text : Node × List ℕ → List ℕ
node_text n = codes " " ++ n.1 ++ node_mark n.0

-- what a refusal says after its place: nothing, a name, two numbers, or the nodes of a cycle
unfoldable pub detail_text : Detail → List ℕ
detail_text Nothing = []
detail_text (Name name) = codes ": " ++ name
detail_text (Pair first second) = codes ": " ++ decimal first ++ codes " " ++ decimal second
detail_text (Cycle nodes) = codes ":" ++ flat_map node_text nodes

-- a refusal: its rule, its place and its detail
unfoldable pub refusal_line : Refusal → List ℕ
refusal_line r = codes "refused " ++ rule_name r.rule ++ codes " at " ++ decimal r.place.line ++ codes ":" ++ decimal r.place.column ++ detail_text r.detail ++ codes "\n"
