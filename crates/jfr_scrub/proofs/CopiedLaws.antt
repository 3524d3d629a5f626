-- What lies in one piece that is copied.
use Rattle.std.specs.Prelude.{◌≡◌, ℕ, zero, suc, ◌+◌, ◌<◌, ◌≤◌, ◌⊎◌, List, [], ◌∷◌, ◌++◌, length, map, take, drop, filter, slice_get, Option, Some, ◌==◌}
use Rattle.std.specs.List.{AllByRecursion, flat_map}
use Rattle.std.proofs.Common.{ap, arith, refl, sym, ◌∙◌, subst, inl, inr, get_or, drop-cons, add-one}
use Rattle.std.proofs.lemmas.List.{append-nil, append_assoc, take-append-drop}
use Rattle.jfr_frame.specs.declared.framed.Framed.{Framed}
use Rattle.jfr_frame.specs.Records.{Tiles, record_end}
use Rattle.jfr_frame.proofs.RecordLaws.{some_bytes, tiles_order}
use Rattle.jfr_pool.specs.declared.entry.EntryAt.{EntryAt}
use Rattle.jfr_chunk.specs.Scrub.{OutputRecord, Whole, Chained, Rebuilt}
use Rattle.jfr_chunk.proofs.AllLaws.{all_append}
use Rattle.jfr_scrub.specs.declared.piece.MadePart.{MadePart}
use Rattle.jfr_scrub.specs.declared.piece.Range.{Range}
use Rattle.jfr_scrub.specs.declared.piece.Range.TheVariants as ranges
use Rattle.jfr_scrub.specs.Bodies.{OutputRecordFits, OutputRecordIsCopied, output_record_parts}
use Rattle.jfr_scrub.specs.Sizes.{HasRange}
use Rattle.jfr_scrub.specs.Pieces.{EntryIsCopied, Grows, IsCopied, Keeps, made_parts}
use Rattle.jfr_scrub.proofs.BodyLaws.{range_filter}

-- A piece among others, and the last one.
get_left : (ps qs : List Range) (n : ℕ) (x : Range) → slice_get ps n ≡ Some x → slice_get (ps ++ qs) n ≡ Some x
get_left [] qs n x e = cc
get_left (p ∷ ps) qs zero x e = e
get_left (p ∷ ps) qs (suc n) x e = get_left ps qs n x e

get_last : (ps : List Range) (x : Range) → slice_get (ps ++ x ∷ []) (length ps) ≡ Some x
get_last [] x = refl
get_last (p ∷ ps) x = get_last ps x

get_cases : (ps : List Range) (y : Range) (n : ℕ) (x : Range) → slice_get (ps ++ y ∷ []) n ≡ Some x → (slice_get ps n ≡ Some x) ⊎ (y ≡ x)
get_cases [] y zero x e = inr cc
get_cases [] y (suc n) x e = cc
get_cases (p ∷ ps) y zero x e = inl e
get_cases (p ∷ ps) y (suc n) x e = get_cases ps y n x e

-- A range of a range that is copied.
pub narrower : (ps : List Range) (p q start end : ℕ) → IsCopied ps p q → p ≤ start → end ≤ q → IsCopied ps start end
narrower ps p q start end c h i =
    let a : c.from ≤ p = c.begins in
    let b : q ≤ c.to = c.ends in
    record { number = c.number; from = c.from; to = c.to; piece = c.piece; begins = omega arith; ends = omega arith }

copied_left : (ps qs : List Range) (start end : ℕ) → IsCopied ps start end → IsCopied (ps ++ qs) start end
copied_left ps qs start end c = record { number = c.number; from = c.from; to = c.to; piece = get_left ps qs c.number (ranges.Copied c.from c.to) c.piece; begins = c.begins; ends = c.ends }

pub copied_last : (ps : List Range) (from to : ℕ) → IsCopied (ps ++ ranges.Copied from to ∷ []) from to
copied_last ps from to = record { number = length ps; from = from; to = to; piece = get_last ps (ranges.Copied from to); begins = omega arith; ends = omega arith }

copied_cases : (ps : List Range) (from to start end : ℕ) → IsCopied (ps ++ ranges.Copied from to ∷ []) start end → IsCopied ps start end ⊎ ((from ≤ start) × (end ≤ to))
copied_cases ps from to start end c = by_get (get_cases ps (ranges.Copied from to) c.number (ranges.Copied c.from c.to) c.piece)
  where
    by_get : (slice_get ps c.number ≡ Some (ranges.Copied c.from c.to)) ⊎ (ranges.Copied from to ≡ ranges.Copied c.from c.to) → IsCopied ps start end ⊎ ((from ≤ start) × (end ≤ to))
    by_get (inl e) = inl (record { number = c.number; from = c.from; to = c.to; piece = e; begins = c.begins; ends = c.ends })
    by_get (inr e) =
        let f : from ≡ c.from = cc in
        let t : to ≡ c.to = cc in
        let a : c.from ≤ start = c.begins in
        let b : end ≤ c.to = c.ends in
        inr (omega arith, omega arith)

-- What is copied still is.
pub keeps_same : (ps qs : List Range) → qs ≡ ps → Keeps ps qs
keeps_same ps qs e = λ start end l c. subst (λ z. IsCopied z start end) (sym e) c

pub keeps_then : (ps qs rs : List Range) → Keeps ps qs → Keeps qs rs → Keeps ps rs
keeps_then ps qs rs k m = λ start end l c. m start end l (k start end l c)

pub keeps_left : (ps qs rs : List Range) → rs ≡ ps ++ qs → Keeps ps rs
keeps_left ps qs rs e = λ start end l c. subst (λ z. IsCopied z start end) (sym e) (copied_left ps qs start end c)

pub keeps_behind : (x : Range) (ps rs : List Range) → rs ≡ x ∷ ps → Keeps ps rs
keeps_behind x ps rs e = λ start end l c. subst (λ z. IsCopied z start end) (sym e) (record { number = suc c.number; from = c.from; to = c.to; piece = c.piece; begins = c.begins; ends = c.ends })

-- Where the last range goes on.
pub keeps_longer : (ps : List Range) (from to end : ℕ) → to ≤ end → Keeps (ps ++ ranges.Copied from to ∷ []) (ps ++ ranges.Copied from end ∷ [])
keeps_longer ps from to end h = λ s e l c. by_case s e (copied_cases ps from to s e c)
  where
    by_case : (s e : ℕ) → IsCopied ps s e ⊎ ((from ≤ s) × (e ≤ to)) → IsCopied (ps ++ ranges.Copied from end ∷ []) s e
    by_case s e (inl d) = copied_left ps (ranges.Copied from end ∷ []) s e d
    by_case s e (inr d) = let i : e ≤ to = d.1 in narrower (ps ++ ranges.Copied from end ∷ []) from end s e (copied_last ps from end) d.0 (omega arith)

-- Where the last range is a piece now, if it has a byte.
pub keeps_settled : (ps qs : List Range) (from to : ℕ) → Keeps ps qs → (from < to → IsCopied qs from to) → Keeps (ps ++ ranges.Copied from to ∷ []) qs
keeps_settled ps qs from to k h = λ s e l c. by_case s e l (copied_cases ps from to s e c)
  where
    by_case : (s e : ℕ) → s < e → IsCopied ps s e ⊎ ((from ≤ s) × (e ≤ to)) → IsCopied qs s e
    by_case s e l (inl d) = k s e l d
    by_case s e l (inr d) = let i : from ≤ s = d.0 in let j : e ≤ to = d.1 in narrower qs from to s e (h (omega arith)) d.0 d.1

-- The made parts of pieces one after another.
pub made_append : (ps qs : List Range) → made_parts (ps ++ qs) ≡ made_parts ps ++ made_parts qs
made_append [] qs = refl
made_append (ranges.Copied from to ∷ ps) qs = made_append ps qs
made_append (ranges.Made part from to ∷ ps) qs = ap (λ z. part ∷ z) (made_append ps qs)

pub grows_same : (ps qs : List Range) → qs ≡ ps → Grows ps qs []
grows_same ps qs e = record { keeps = keeps_same ps qs e; made = ap made_parts e ∙ sym (append-nil (made_parts ps)) }

pub grows_left : (ps qs rs : List Range) → rs ≡ ps ++ qs → Grows ps rs (made_parts qs)
grows_left ps qs rs e = record { keeps = keeps_left ps qs rs e; made = ap made_parts e ∙ made_append ps qs }

pub grows_then : (ps qs rs : List Range) (a b : List MadePart) → Grows ps qs a → Grows qs rs b → Grows ps rs (a ++ b)
grows_then ps qs rs a b g h = record { keeps = keeps_then ps qs rs g.keeps h.keeps; made = h.made ∙ (ap (λ z. z ++ b) g.made ∙ append_assoc (made_parts ps) a b) }

-- The last range is continued, or becomes a piece.
last_made : (ps : List Range) (from to : ℕ) → made_parts (ps ++ ranges.Copied from to ∷ []) ≡ made_parts ps
last_made ps from to = made_append ps (ranges.Copied from to ∷ []) ∙ append-nil (made_parts ps)

pub grows_longer : (ps : List Range) (from to end : ℕ) → to ≤ end → Grows (ps ++ ranges.Copied from to ∷ []) (ps ++ ranges.Copied from end ∷ []) []
grows_longer ps from to end h = record {
  keeps = keeps_longer ps from to end h;
  made = last_made ps from end
      ∙ (sym (last_made ps from to) ∙ sym (append-nil (made_parts (ps ++ ranges.Copied from to ∷ []))));
}

pub grows_settled : (ps qs : List Range) (from to : ℕ) → Grows ps qs [] → (from < to → IsCopied qs from to) → Grows (ps ++ ranges.Copied from to ∷ []) qs []
grows_settled ps qs from to g h = record { keeps = keeps_settled ps qs from to g.keeps h; made = g.made ∙ ap (λ z. z ++ []) (sym (last_made ps from to)) }

-- What is made so far, and what is left of all that is made.
pub record MakingParts (ps now : List Range) (rest all : List MadePart) : Type 0 where
  pub done : List MadePart
  pub grows : Grows ps now done
  pub remaining : done ++ rest ≡ all

pub making_none : (ps : List Range) (all : List MadePart) → MakingParts ps ps all all
making_none ps all = record { done = []; grows = grows_same ps ps refl; remaining = refl }

pub making_next : (ps now next : List Range) (here before rest all : List MadePart) → before ≡ here ++ rest → MakingParts ps now before all → Grows now next here → MakingParts ps next rest all
making_next ps now next here before rest all e m g =
    record { done = m.done ++ here; grows = grows_then ps now next m.done here m.grows g; remaining = append_assoc m.done here rest ∙ (ap (λ z. m.done ++ z) (sym e) ∙ m.remaining) }

pub making_all : (ps now : List Range) (rest all : List MadePart) → MakingParts ps now rest all → rest ≡ [] → Grows ps now all
making_all ps now rest all m e = subst (Grows ps now) (sym (append-nil m.done) ∙ (ap (λ z. m.done ++ z) (sym e) ∙ m.remaining)) m.grows

-- Nothing is made of a run.
pub run_parts : (remaining : List EntryAt) (rs : List Framed) (before rest : List OutputRecord) → before ≡ map (λ r. Whole r) rs ++ rest
    → flat_map (output_record_parts remaining) before ≡ flat_map (output_record_parts remaining) rest
run_parts remaining rs before rest e = ap (flat_map (output_record_parts remaining)) e ∙ none rs
  where
    none : (rs : List Framed) → flat_map (output_record_parts remaining) (map (λ r. Whole r) rs ++ rest) ≡ flat_map (output_record_parts remaining) rest
    none [] = refl
    none (r ∷ rs) = none rs

-- The parts made so far and those left are all, after a run and one more output record.
pub parts_next : (remaining : List EntryAt) (now mid next : List Range) (rs : List Framed) (before rest ss : List OutputRecord) (s : OutputRecord) (all : List MadePart)
    → before ≡ map (λ r. Whole r) rs ++ rest → rest ≡ s ∷ ss → Grows now mid [] → Grows mid next (output_record_parts remaining s) →
    made_parts now ++ flat_map (output_record_parts remaining) before ≡ all → made_parts next ++ flat_map (output_record_parts remaining) ss ≡ all
parts_next remaining now mid next rs before rest ss s all e q g h m =
    let f = flat_map (output_record_parts remaining) in
    ap (λ z. z ++ f ss) h.made ∙ (append_assoc (made_parts mid) (output_record_parts remaining s) (f ss)
    ∙ (ap (λ z. z ++ f (s ∷ ss)) (g.made ∙ append-nil (made_parts now)) ∙ (ap (λ z. made_parts now ++ z) (ap f (sym q) ∙ sym (run_parts remaining rs before rest e)) ∙ m)))

pub parts_all : (remaining : List EntryAt) (now mid : List Range) (rs : List Framed) (before rest : List OutputRecord) (all : List MadePart) → before ≡ map (λ r. Whole r) rs ++ rest → rest ≡ []
    → Grows now mid [] → made_parts now ++ flat_map (output_record_parts remaining) before ≡ all → made_parts mid ≡ all
parts_all remaining now mid rs before rest all e q g m =
    let f = flat_map (output_record_parts remaining) in
    g.made ∙ (ap (λ z. made_parts now ++ z) (sym (run_parts remaining rs before rest e ∙ ap f q)) ∙ m)

-- With the last range as a piece.
pub settled_parts : (ps qs os : List Range) (from to : ℕ) → Grows ps qs [] → ps ++ ranges.Copied from to ∷ [] ≡ os → made_parts qs ≡ made_parts os
settled_parts ps qs os from to g e = g.made ∙ (append-nil (made_parts ps) ∙ (sym (last_made ps from to) ∙ ap made_parts e))

-- Entries that are copied still are.
pub entries_kept : (ps qs : List Range) → Keeps ps qs → (n : ℕ) (es : List EntryAt) → AllByRecursion (HasRange n) es → AllByRecursion (EntryIsCopied ps) es → AllByRecursion (EntryIsCopied qs) es
entries_kept ps qs k n [] a c = tt
entries_kept ps qs k n (e ∷ es) a c = (k e.key_at e.end a.0.order c.0, entries_kept ps qs k n es a.1 c.1)

output_record_kept : (ps qs : List Range) → Keeps ps qs → (b : List ℕ) (remaining : List EntryAt) → AllByRecursion (HasRange (length b)) remaining → (s : OutputRecord) (at : ℕ) (newest : Option ℕ)
    → OutputRecordFits b remaining s at newest → OutputRecordIsCopied remaining ps s → OutputRecordIsCopied remaining qs s
output_record_kept ps qs k b remaining a (Whole r) at newest f c = k r.at (record_end r) (some_bytes b r f) c
output_record_kept ps qs k b remaining a (Rebuilt r x) at newest f c = tt
output_record_kept ps qs k b remaining a (Chained number l) at newest f c =
    entries_kept ps qs k (length b) (filter (λ e. e.checkpoint == number) remaining) (range_filter (length b) (λ e. e.checkpoint == number) remaining a) c

-- All are copied, if those still to come are, in any pieces that keep the ranges copied so far.
abbrev pub SoFar : {X : Type 0} → (List Range → X → Type 0) → List Range → List X → List X → Type 0
SoFar P now rest all = (ps : List Range) → Keeps now ps → AllByRecursion (P ps) rest → AllByRecursion (P ps) all

pub so_far_none : {X : Type 0} (P : List Range → X → Type 0) (now : List Range) (all : List X) → SoFar P now all all
so_far_none P now all = λ ps k c. c

pub so_far_done : {X : Type 0} (P : List Range → X → Type 0) (now : List Range) (rest all : List X) → SoFar P now rest all → rest ≡ [] → SoFar P now [] all
so_far_done P now rest all s e = λ ps k c. s ps k (subst (AllByRecursion (P ps)) (sym e) c)

pub so_far_now : {X : Type 0} (P : List Range → X → Type 0) (now : List Range) (all : List X) → SoFar P now [] all → AllByRecursion (P now) all
so_far_now P now all s = s now (keeps_same now now refl) tt

pub none_left : {X : Type 0} (rest : List X) → length rest ≤ 0 → rest ≡ []
none_left [] h = refl
none_left (x ∷ rest) h = absurd (omega arith)

-- Entries after the first of them.
pub so_far_entries : (n i : ℕ) (now next : List Range) (rest all pool : List EntryAt) → SoFar EntryIsCopied now rest all → Keeps now next → pool ≡ take i rest → AllByRecursion (HasRange n) pool
    → AllByRecursion (EntryIsCopied next) pool → SoFar EntryIsCopied next (drop i rest) all
so_far_entries n i now next rest all pool s k e r c = λ ps m d.
    s ps (keeps_then now next ps k m) (subst (AllByRecursion (EntryIsCopied ps)) (ap (λ z. z ++ drop i rest) e ∙ take-append-drop i rest)
    (all_append (EntryIsCopied ps) pool (drop i rest) (entries_kept next ps m n pool r c) d))

-- Entries after one.
pub so_far_entry : (n i : ℕ) (now next : List Range) (es all : List EntryAt) (d : EntryAt) → i < length es → SoFar EntryIsCopied now (drop i es) all → Keeps now next → HasRange n (get_or es i d)
    → EntryIsCopied next (get_or es i d) → SoFar EntryIsCopied next (drop (i + 1) es) all
so_far_entry n i now next es all d h s k r c =
    let e = get_or es i d in
    let g : drop i es ≡ e ∷ drop (i + 1) es = drop-cons es i d h ∙ ap (λ m. e ∷ drop m es) (sym (add-one i)) in
    λ ps m b. s ps (keeps_then now next ps k m) (subst (AllByRecursion (EntryIsCopied ps)) (sym g) (m e.key_at e.end r.order c, b))

-- The output records after one.
pub so_far_output_record : (b : List ℕ) (remaining : List EntryAt) (now next : List Range) (s : OutputRecord) (rest all : List OutputRecord) (at : ℕ) (newest : Option ℕ)
    → AllByRecursion (HasRange (length b)) remaining → OutputRecordFits b remaining s at newest → SoFar (OutputRecordIsCopied remaining) now (s ∷ rest) all → Keeps now next
    → OutputRecordIsCopied remaining next s →
    SoFar (OutputRecordIsCopied remaining) next rest all
so_far_output_record b remaining now next s rest all at newest a f so k c = λ ps m d. so ps (keeps_then now next ps k m) (output_record_kept next ps m b remaining a s at newest f c, d)

-- Records of a range that is copied.
records_copied : (b : List ℕ) (remaining : List EntryAt) (now next : List Range) → Keeps now next → (p from to : ℕ) (rs : List Framed) → IsCopied now p to → p ≤ from → Tiles b from rs to
    → AllByRecursion (OutputRecordIsCopied remaining next) (map (λ r. Whole r) rs)
records_copied b remaining now next k p from to [] c h t = tt
records_copied b remaining now next k p from to (r ∷ rs) c h t =
    let l : r.at < record_end r = some_bytes b r t.1 in
    let e : r.at ≡ from = t.0 in (
      k r.at (record_end r) l (narrower now p to r.at (record_end r) c (omega arith) (tiles_order b (record_end r) to rs t.2)),
      records_copied b remaining now next k p (record_end r) to rs c
          (omega arith) t.2,
    )

-- The output records after a run.
pub so_far_run : (b : List ℕ) (remaining : List EntryAt) (now next : List Range) (before rest all : List OutputRecord) (rs : List Framed) (from to : ℕ) → before ≡ map (λ r. Whole r) rs ++ rest
    → Tiles b from rs to → SoFar (OutputRecordIsCopied remaining) now before all → Keeps now next → IsCopied next from to →
    SoFar (OutputRecordIsCopied remaining) next rest all
so_far_run b remaining now next before rest all rs from to e t so k c = λ ps m d.
    so ps (keeps_then now next ps k m) (subst (AllByRecursion (OutputRecordIsCopied remaining ps)) (sym e)
    (all_append (OutputRecordIsCopied remaining ps) (map (λ r. Whole r) rs) rest (records_copied b remaining next ps m from from to rs c (omega arith) t) d))
