-- The children's cells of a node: the table of what they are worth, and where they stand.
-- Assumes nothing.
use Prim.Native.Nat.{ℕ, ◌+◌, ◌-◌, ◌*◌, ◌/◌, ◌%◌, ◌≤◌, ◌<◌}
use mathlib.Core.Path.{◌≡◌, refl, sym, ap, ap₂, ◌∙◌}
use mathlib.Core.Bool.{true, false}
use mathlib.Core.List.{List, ◌∷◌, Memᴰ}
use mathlib.Core.Option.{some}
use native.Mathlib.Omega.{arith}
use lib.ListN.{length, get_or}
use Rattle.codec.specs.Codec.{current, blank}
use Rattle.sets.specs.Sets.{member}
use Rattle.sets.specs.Structure.{tolerated}
use Rattle.plan.specs.declared.plan.Plan.{Plan}
use Rattle.plan.specs.Listed.{listed}
use Rattle.schedule.specs.declared.rounds.Round.{Round}
use Rattle.tree.specs.Labels.{Label, occurs, mask, labels}
use Rattle.tree.specs.Places.{outside_below, child_index, start_within, place, cell_count}
use Rattle.tree.proofs.Labels.{label-below, label-length}
use Rattle.tree.proofs.Masks.{mask-member}
use Rattle.tree.proofs.NodePlaces.{at_mem}
use Rattle.tree.proofs.Within.{start-most}
use Rattle.protocol.specs.declared.records.Slot.{Slot}
use Rattle.protocol.specs.Listing.{as_set}
use Rattle.protocol.specs.Detection.{explained, by_cell}
use Rattle.protocol.proofs.Bounds.{last-below}
use Rattle.voting.specs.Worth.{child_table, Beside}
use Rattle.voting.specs.Tables.{explained_by}
use Rattle.voting.proofs.Table.{table_same}
use Rattle.voting.proofs.Laws.{explained-table}
use Rattle.frames.specs.Nodes.{Standing, Nodes, node_at}
use Rattle.frames.proofs.Places.{child-sum, child-lt, read-place}
use Rattle.frames.proofs.Standing.{tabled}
use Rattle.rule_g.specs.Visits.{kid, Visit}

module _ {p : Plan} {holders : List ℕ} {level node start : ℕ} {cells : List ℕ} (v : Visit p holders level node start cells) where
  abbrev α : Label
  α = node_at p level node

  abbrev from : ℕ
  from = start + node / 1024 * (p.n - level)

  -- Where the child by board c stands.
  module _ (c : ℕ) (l : c < p.n) (out : member c (node % 128) ≡ false) where
    absent : occurs c α ≡ false
    absent = sym (mask-member c α) ∙ ap (member c) (sym v.is-node.boards) ∙ out

    kid-place : from + outside_below (node % 128) c ≡ place p.n (c ∷ α)
    unfolding child_index
    kid-place =
        (let z : from + outside_below (node % 128) c ≡ start + (node / 1024 * (p.n - level) + outside_below (node % 128) c) = omega arith in z)
        ∙ child-sum p.n p.dealer level (node / 1024) v.dealer-below v.is-node.inside (node % 128) c start _ v.some-board v.tabled.most-boards
        v.is-node.boards v.starts refl

    kid-there : from + outside_below (node % 128) c < length cells
    kid-there = omega (arith, kid-place, child-lt p.n p.dealer level (node / 1024) v.dealer-below v.is-node.inside c (length cells) l absent v.enough)

    kid-read : kid p (node % 128) from cells c ≡ by_cell p cells α c
    unfolding kid by_cell
    kid-read = ap some (read-place p cells (c ∷ α) (from + outside_below (node % 128) c) kid-place)

  pub kids-there : Beside p.n (node % 128) from cells
  kids-there = record { few = omega (arith, v.tabled.most-boards); there = kid-there }

  -- The table is that of the children's cells.
  pub kids-table : child_table (kid p (node % 128) from cells) (node % 128) p.n ≡ child_table (by_cell p cells α) (mask α) p.n
  kids-table =
      table_same (kid p (node % 128) from cells) (by_cell p cells α) (node % 128) p.n kid-read
      ∙ ap (λ s. child_table (by_cell p cells α) s p.n) v.is-node.boards

  pub start_fits : start ≤ 5040
  start_fits = omega (arith, v.starts, start-most p.n (level + 1))

  label : Memᴰ α (labels p.n p.dealer level)
  label = at_mem p.n p.dealer level (node / 1024) v.dealer-below v.is-node.inside

  pub label-level : length α ≡ level
  label-level = label-length p.n p.dealer level α label

  pub end_below : node / 128 % 8 < p.n
  end_below = omega (arith, v.is-node.end, last-below p.n p.dealer level α v.dealer-below label)

  -- It is enough to try the children's own values.
  pub explained-kids : (list : List Slot) → explained_by p (node % 128) (child_table (kid p (node % 128) from cells) (node % 128) p.n) (as_set list) ≡ explained p α (by_cell p cells α) list
  explained-kids list =
      ap₂ (λ s t. explained_by p s t (as_set list)) v.is-node.boards kids-table
      ∙ sym (explained-table p α (by_cell p cells α) list v.accepted v.most_values v.held (label-below p.n p.dealer level α v.dealer-below label))

-- At place i of a list of internal nodes of the level before the round's.
pub visiting : {p : Plan} {holders : List ℕ} {board : ℕ} {k : Round} → Standing p holders board k → p.span ≤ blank current
    → (nodes : List ℕ) → Nodes p (k.0 - 1) nodes → ((j : ℕ) → j < length nodes → tolerated (listed p) (mask (node_at p (k.0 - 1) (get_or nodes j 0))) ≡ true)
    → (i start : ℕ) (cells : List ℕ) → i < length nodes → start ≡ start_within p.n k.0 → cell_count p.n ≤ length cells
    → Visit p holders (k.0 - 1) (get_or nodes i 0) start cells
visiting {p = p} {k = k} s b nodes ns held i start cells h e room = record {
  accepted = s.accepted;
  some-board = s.some-board;
  dealer-below = s.dealer-below;
  level-below = ns.level-below;
  most_values = b;
  tabled = tabled s;
  is-node = ns.are i h;
  held = held i h;
  starts = e ∙ ap (start_within p.n) (let z : k.0 ≡ k.0 - 1 + 1 = omega (arith, s.round-low) in z);
  enough = room;
}
