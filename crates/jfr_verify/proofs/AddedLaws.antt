-- Lines that are added one after another.
use Rattle.std.specs.Prelude.{◌≡◌, ◌<◌, ◌+◌, ℕ, Bool, true, false, List, [], ◌∷◌, ◌++◌, take, length, map, replicate, slice_index_or, slice_set}
use Rattle.std.proofs.Common.{ap, refl, sym, ◌∙◌, subst}
use Rattle.std.proofs.lemmas.List.{append_assoc, append-nil, length-set, map-append, take_more}
use Rattle.jfr_value.specs.Visits.{TakesAll}
use Rattle.jfr_pool.specs.declared.entry.EntryAt.{EntryAt}
use Rattle.jfr_pool.specs.Entries.{number_in_force}
use Rattle.jfr_worklist.specs.Marks.{is_marked, marked_at, those}
use Rattle.jfr_verify.specs.declared.lines.Lines.{Lines}
use Rattle.jfr_verify.specs.declared.line.Line.{Line}
use Rattle.jfr_verify.specs.declared.line.Parent.{Parent}
use Rattle.jfr_verify.specs.Receipts.{new_lines}
use Rattle.jfr_verify.specs.Added.{Adds}
use Rattle.jfr_worklist.proofs.MarkLaws.{all_append}
use Rattle.jfr_chunk.proofs.RootLaws.{takes_those}

pub new_append : (marks : List Bool) (parent : Parent) (xs ys : List ℕ) → new_lines marks parent (xs ++ ys) ≡ new_lines marks parent xs ++ new_lines (marked_at marks xs) parent ys
new_append marks parent [] ys = refl
new_append marks parent (x ∷ xs) ys = by_mark (is_marked marks x) refl (new_append (slice_set marks x true) parent xs ys)
  where
    by_mark : (b : Bool) → is_marked marks x ≡ b
        → new_lines (slice_set marks x true) parent (xs ++ ys) ≡ new_lines (slice_set marks x true) parent xs ++ new_lines (marked_at (slice_set marks x true) xs) parent ys
        → new_lines marks parent (x ∷ (xs ++ ys)) ≡ new_lines marks parent (x ∷ xs) ++ new_lines (marked_at (slice_set marks x true) xs) parent ys
    by_mark true e h = rw e h
    by_mark false e h = rw e (ap (λ z. record { entry = x; parent = parent } ∷ z) h)

-- The marks are those of the entries of lines, with one line more.
pub listed_more : (f : List Bool) (ls now : List Line) (n : ℕ) (l : Line) → f ≡ marked_at (replicate (length f) false) (map (λ l. l.entry) ls) → now ≡ ls ++ l ∷ [] → l.entry ≡ n
    → slice_set f n true ≡ marked_at (replicate (length (slice_set f n true)) false) (map (λ l. l.entry) now)
listed_more f ls now n l e h k =
    let none : List Bool = replicate (length f) false in
    let each : map (λ (l : Line). l.entry) now ≡ map (λ (l : Line). l.entry) ls ++ n ∷ [] =
    ap (map (λ (l : Line). l.entry)) h ∙ (map-append (λ (l : Line). l.entry) ls (l ∷ []) ∙ ap (λ z. map (λ (l : Line). l.entry) ls ++ z ∷ []) k) in
    ap (λ z. slice_set z n true) e
    ∙ (sym (all_append none (map (λ (l : Line). l.entry) ls) (n ∷ []))
    ∙ (ap (marked_at none) (sym each) ∙ ap (λ z. marked_at (replicate z false) (map (λ (l : Line). l.entry) now)) (sym (length-set f n true))))

-- At first there are no lines.
pub listed_none : (f : List Bool) (ls : List Line) (n : ℕ) → f ≡ replicate n false → length f ≡ n → ls ≡ [] → f ≡ marked_at (replicate (length f) false) (map (λ l. l.entry) ls)
listed_none f ls n e l h = e ∙ (ap (λ z. replicate z false) (sym l) ∙ ap (λ (z : List Line). marked_at (replicate (length f) false) (map (λ l. l.entry) z)) (sym h))

pub adds_none : (a : Lines) → Adds [] a a
adds_none a = record { marks = refl; lines = sym (append-nil a.items.items); parent = refl }

pub adds_then : (xs ys : List ℕ) (a b c : Lines) → Adds xs a b → Adds ys b c → Adds (xs ++ ys) a c
adds_then xs ys a b c p q = record {
  marks = q.marks ∙ (ap (λ z. marked_at z ys) p.marks ∙ sym (all_append a.flags.items xs ys));
  lines =
      q.lines ∙ (ap (λ z. z ++ new_lines b.flags.items b.parent ys) p.lines
      ∙ (append_assoc a.items.items (new_lines a.flags.items a.parent xs) (new_lines b.flags.items b.parent ys)
      ∙ ap (λ z. a.items.items ++ z) (ap (λ z. new_lines a.flags.items a.parent xs ++ new_lines z b.parent ys) p.marks
      ∙ (ap (λ z. new_lines a.flags.items a.parent xs ++ new_lines (marked_at a.flags.items xs) z ys) p.parent ∙ sym (new_append a.flags.items a.parent xs ys)))));
  parent = q.parent ∙ p.parent;
}

-- Visiting targets adds lines for their entries.
pub adds_all : (es : List EntryAt) (ts : List (ℕ × ℕ)) (old new : Lines) → TakesAll (λ t a b. Adds (those (number_in_force es) (t ∷ [])) a b) ts old new → Adds (those (number_in_force es) ts) old new
adds_all es = takes_those Adds adds_none adds_then (number_in_force es)

-- One more number.
pub adds_more : (is : List ℕ) (at : ℕ) (old here new : Lines) → at < length is → Adds (take at is) old here → Adds (slice_index_or is at 0 ∷ []) here new → Adds (take (at + 1) is) old new
adds_more is at old here new h p q = subst (λ z. Adds z old new) (sym (take_more is at 0 h)) (adds_then (take at is) (slice_index_or is at 0 ∷ []) old here new p q)
