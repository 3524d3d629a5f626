-- What is left to put into a worklist, and what comes of it in the end.
use Rattle.std.specs.Prelude.{◌≡◌, ℕ, zero, suc, ◌+◌, ◌<◌, true, List, [], ◌∷◌, ◌++◌, drop, length, slice_index_or, slice_set}
use Rattle.std.proofs.Common.{ap, arith, refl, sym, ◌∙◌}
use Rattle.jfr_worklist.specs.Marks.{marked_at}
use Rattle.jfr_worklist.specs.Putting.{Puts}
use Rattle.jfr_worklist.specs.Worklists.{ordered, ordered_all}
use Rattle.jfr_worklist.specs.declared.worklist.Worklist.{Worklist}
use Rattle.jfr_worklist.proofs.MarkLaws.{all_append, all_size}
use Rattle.jfr_worklist.proofs.PuttingLaws.{ordered_append}

-- The rest makes of a list now what all makes of the list at the start.
pub record Rests (all rest : List ℕ) (start now : Worklist) : Type 0 where
  pub marks : marked_at now.flags.items rest ≡ marked_at start.flags.items all
  pub order : ordered_all now.flags.items now.order.items rest ≡ ordered_all start.flags.items start.order.items all

pub rests_all : (all rest : List ℕ) (a : Worklist) → rest ≡ all → Rests all rest a a
rests_all all rest a e = record { marks = ap (marked_at a.flags.items) e; order = ap (ordered_all a.flags.items a.order.items) e }

pub rests_after : (all xs rest left : List ℕ) (a b c : Worklist) → Rests all left a b → left ≡ xs ++ rest → Puts xs b c → Rests all rest a c
rests_after all xs rest left a b c r e p = record {
  marks = ap (λ z. marked_at z rest) p.marks ∙ (sym (ap (marked_at b.flags.items) e ∙ all_append b.flags.items xs rest) ∙ r.marks);
  order =
      ap (λ z. ordered_all z c.order.items rest) p.marks
      ∙ (ap (λ z. ordered_all (marked_at b.flags.items xs) z rest) p.order
      ∙ (sym (ap (ordered_all b.flags.items b.order.items) e ∙ ordered_append b.flags.items b.order.items xs rest) ∙ r.order));
}

-- If nothing is left, all was put.
pub rests_none : (all rest : List ℕ) (a b : Worklist) → rest ≡ [] → Rests all rest a b → Puts all a b
rests_none all rest a b e r = record { marks = ap (marked_at b.flags.items) (sym e) ∙ r.marks; order = ap (ordered_all b.flags.items b.order.items) (sym e) ∙ r.order }

-- The number of flags stays the same.
pub rests_size : (all rest : List ℕ) (a b : Worklist) → Rests all rest a b → length b.flags.items ≡ length a.flags.items
rests_size all rest a b r = sym (all_size b.flags.items rest) ∙ (ap length r.marks ∙ all_size a.flags.items all)

-- One number of a list is put.
pub rests_one : (xs : List ℕ) (i x : ℕ) (a b c : Worklist) → i < length xs → Rests xs (drop i xs) a b → x ≡ slice_index_or xs i 0
    → c.flags.items ≡ slice_set b.flags.items x true → c.order.items ≡ ordered b.flags.items b.order.items x → Rests xs (drop (i + 1) xs) a c
rests_one xs i x a b c h r e f o = rests_after xs (x ∷ []) (drop (i + 1) xs) (drop i xs) a b c r (from_place xs i h ∙ ap (λ z. z ∷ drop (i + 1) xs) (sym e)) (record { marks = f; order = o })
  where
    from_place : (xs : List ℕ) (i : ℕ) → i < length xs → drop i xs ≡ slice_index_or xs i 0 ∷ drop (i + 1) xs
    from_place [] i h = absurd (omega arith)
    from_place (x ∷ xs) zero h = refl
    from_place (x ∷ xs) (suc i) h = from_place xs i (omega arith) ∙ ap (λ n. slice_index_or xs i 0 ∷ drop n (x ∷ xs)) (let e : suc (i + 1) ≡ suc i + 1 = omega arith in e)
