-- What a worklist holds after lists of numbers are put into it, one after another.
use Rattle.std.specs.Prelude.{◌≡◌, ℕ, Bool, List, [], ◌∷◌, ◌++◌, length}
use Rattle.std.proofs.Common.{ap, refl, sym, ◌∙◌}
use Rattle.jfr_worklist.specs.Marks.{marked_at}
use Rattle.jfr_worklist.specs.Worklists.{ordered_all}
use Rattle.jfr_worklist.specs.Putting.{Puts}
use Rattle.jfr_worklist.specs.declared.worklist.Worklist.{Worklist}
use Rattle.jfr_worklist.proofs.MarkLaws.{all_append, all_size}

-- The order after two lists of numbers.
pub ordered_append : (f : List Bool) (o xs ys : List ℕ) → ordered_all f o (xs ++ ys) ≡ ordered_all (marked_at f xs) (ordered_all f o xs) ys
ordered_append f o [] ys = refl
ordered_append f o (x ∷ xs) ys = ordered_append _ _ xs ys

-- Nothing is put.
pub puts_none : (a : Worklist) → Puts [] a a
puts_none a = record { marks = refl; order = refl }

-- One list is put, and then another.
pub puts_then : (xs ys : List ℕ) (a b c : Worklist) → Puts xs a b → Puts ys b c → Puts (xs ++ ys) a c
puts_then xs ys a b c p q = record {
  marks = q.marks ∙ (ap (λ z. marked_at z ys) p.marks ∙ sym (all_append a.flags.items xs ys));
  order = q.order ∙ (ap (λ z. ordered_all z b.order.items ys) p.marks ∙ (ap (λ z. ordered_all (marked_at a.flags.items xs) z ys) p.order ∙ sym (ordered_append a.flags.items a.order.items xs ys)));
}

-- The number of flags stays the same.
pub puts_size : (xs : List ℕ) (a b : Worklist) → Puts xs a b → length b.flags.items ≡ length a.flags.items
puts_size xs a b p = ap length p.marks ∙ all_size a.flags.items xs
