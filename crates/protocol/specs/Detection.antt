-- Resolving, and the rules by which a board detects faulty boards.
use Rattle.std.specs.Prelude.{ℕ, zero, suc, ◌-◌, Bool, not, ◌&&◌, ◌||◌, cond, List, [], ◌∷◌, eqb, length, get_or}
use Rattle.std.proofs.Math.Option
use Rattle.std.proofs.Math.Option.{Option, some, none}
use Rattle.sets.specs.Search.{any}
use Rattle.sets.specs.Only.{only, same}
use Rattle.sets.specs.Sets.{member, set_of}
use Rattle.sets.specs.Structure.{tolerated}
use Rattle.sets.specs.Tabulate.{tabulate}
use Rattle.plan.specs.declared.plan.Plan.{Plan}
use Rattle.plan.specs.Listed.{listed}
use Rattle.schedule.specs.declared.rounds.Run.{Run}
use Rattle.schedule.specs.declared.rounds.Round.{Round}
use Rattle.schedule.specs.Schedule.{rounds}
use Rattle.tree.specs.Labels.{Label, occurs, last}
use Rattle.tree.specs.Cells.{store}
use Rattle.plan.specs.Values.{default}
use Rattle.protocol.specs.declared.records.Rule.TheVariants as Rule
use Rattle.protocol.specs.declared.records.Slot.{Slot}
use Rattle.protocol.specs.Listing.{join, as_set}
use Rattle.protocol.specs.Nodes.{read, internal, nodes, inner}

-- 01: "the only value v below m for which the children resolved to v form a set that is not tolerated"; f has what each child
-- of α is worth: a value, or none.
unfoldable pub vote : Plan → Label → (ℕ → Option ℕ) → Option ℕ
vote p α f = only (λ v. not (tolerated (listed p) (set_of (λ c. not (occurs c α) && same (f c) (some v)) p.n))) p.span

-- 01: "A leaf resolves to its cell. An internal node resolves to the only value ..; if there is none or more than one .. to none".
-- `left` is the number of levels below the node.
unfoldable pub resolve : Plan → ℕ → List ℕ → ℕ → Label → Option ℕ
resolve p i cells zero α = some (read p cells α)
resolve p i cells (suc left) α =
    let child : ℕ → Option ℕ = λ c. let below = resolve p i cells left (c ∷ α) in cond (occurs c α) none below in
    let results = tabulate child 0 p.n in
    let voted = vote p α (λ c. get_or results c none) in
    cond (internal p i α) voted (some (read p cells α))

-- The root. 01: an unresolved root is 0; 02 b: the default.
unfoldable pub resolve_root : Plan → ℕ → List ℕ → ℕ
resolve_root p i cells = Option.get_or (resolve p i cells ((rounds p).0 - 1) (p.dealer ∷ [])) (default p)

-- 01: a value v below m makes "{children whose cell is not v} ∪ L tolerated"; f has what each child of α is worth.
unfoldable pub explained : Plan → Label → (ℕ → Option ℕ) → List Slot → Bool
explained p α f list =
    let set = as_set list in
    any (λ v. tolerated (listed p) (set_of (λ c. (not (occurs c α) && not (same (f c) (some v))) || member c set) p.n)) p.span

-- What child c of α is worth by its cell, and by what it resolves to.
unfoldable pub by_cell : Plan → List ℕ → Label → ℕ → Option ℕ
by_cell p cells α c = some (read p cells (c ∷ α))

unfoldable pub by_resolving : Plan → ℕ → List ℕ → Label → ℕ → Option ℕ
by_resolving p i cells α c = resolve p i cells ((rounds p).0 - suc (length α)) (c ∷ α)

-- Does the rule leave the list as it is at node α? 01: "If r is not in L and no value v ..., r joins L".
unfoldable pub passes : Plan → Label → (ℕ → Option ℕ) → List Slot → Bool
passes p α f list = member (last α) (as_set list) || explained p α f list

-- The list and the cells, as a rule goes over the nodes: 01 has both change "before the next node is looked at".
pub record Scan : Type 0 where
  pub list : List Slot
  pub cells : List ℕ

-- Every cell of the nodes given that end in r becomes the default.
unfoldable pub mask_board : Plan → ℕ → List Label → List ℕ → List ℕ
mask_board p r [] cells = cells
mask_board p r (γ ∷ γs) cells = mask_board p r γs (cond (eqb (last γ) r) (store p.n cells γ (default p)) cells)

-- 003: FD1; 01: rule G. At one internal node of board i, in run t and round k: r joins, "and every level-k cell whose node ends in r becomes 0 before
-- the next node is looked at"; 02 b: the default.
unfoldable pub detect_g : Plan → ℕ → Run → Round → Label → Scan → Scan
detect_g p i t k α s =
    let joined : Scan = record {
      list = join (last α) t k (Rule.G (length α)) s.list;
      cells = mask_board p (last α) (nodes p i (suc (length α))) s.cells;
    } in
    cond (passes p α (by_cell p s.cells α) s.list) s joined

unfoldable pub detect_all_g : Plan → ℕ → Run → Round → List Label → Scan → Scan
detect_all_g p i t k [] s = s
detect_all_g p i t k (α ∷ αs) s = detect_all_g p i t k αs (detect_g p i t k α s)

-- 003: FD2; 01: rule C, "rule G on resolved children, without changing cells". In run t and round k, the last.
unfoldable pub detect_c : Plan → ℕ → Run → Round → List ℕ → Label → List Slot → List Slot
detect_c p i t k cells α list =
    cond (passes p α (by_resolving p i cells α) list) list (join (last α) t k (Rule.C (length α)) list)

unfoldable pub detect_all_c : Plan → ℕ → Run → Round → List ℕ → List Label → List Slot → List Slot
detect_all_c p i t k cells [] list = list
detect_all_c p i t k cells (α ∷ αs) list = detect_all_c p i t k cells αs (detect_c p i t k cells α list)

-- 01: "over levels R − 1 down to 1, each in cell order": the level given and those below it.
unfoldable pub detect_levels : Plan → ℕ → Run → Round → List ℕ → ℕ → List Slot → List Slot
detect_levels p i t k cells zero list = list
detect_levels p i t k cells (suc level) list =
    detect_levels p i t k cells level (detect_all_c p i t k cells (inner p i (suc level)) list)
