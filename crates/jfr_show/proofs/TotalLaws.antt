-- The totals with a chunk more.
use Rattle.std.specs.Prelude.{◌≡◌, ℕ, ◌+◌, List, [], ◌∷◌, ◌++◌, filter, length, map, Option, None, Some, slice_get, sum_by}
use Rattle.std.specs.Option.{option_map, option_or}
use Rattle.std.specs.List.{flat_map}
use Rattle.std.specs.FinMap as fin
use Rattle.std.specs.FinMap.{find, get-from_entries, same_map, slice_cmp-IsAntisymmetric, nat_cmp-IsAntisymmetric}
use Rattle.std.specs.Ordering.{eq_by_cmp, nat_cmp}
use Rattle.std.specs.Cmp.{eq_by_cmp_equiv}
use Rattle.std.specs.Cmp.Lexicographic.{slice_cmp, nat_list_cmp_total}
use Rattle.std.specs.Str.{bytes_eq}
use Rattle.std.proofs.Common.{ap, arith, refl, sym, subst, ◌∙◌, append-nil, Bool, true, false, cond}
use Rattle.std.proofs.lemmas.Map.Text.{is_eq-slice_cmp}
use Rattle.std.proofs.lemmas.List.{length_push}
use Rattle.std.proofs.lemmas.List.Concat.{flat_map-append}
use Rattle.std.proofs.lemmas.List.Sums.{sum_by_push}
use Rattle.std.proofs.lemmas.Slice.Eq.{bytes_eq-Decides}
use Rattle.jfr_chunk.specs.Parts.{Parts, events_of, is_inert}
use Rattle.jfr_show.specs.declared.beginning.Beginning.{Beginning}
use Rattle.jfr_show.specs.declared.tally.Tally.{Tally}
use Rattle.jfr_show.specs.Counting.{AddsEvents, added, both, no_tally}
use Rattle.jfr_show.specs.Totals.{Occurrence, Tallies, Totals, beginning_of, count_in_force, header_in, occurrences, of_name, tallies_of, tally_of, totals_of}
use Rattle.jfr_show.proofs.ClassTallies.{added_some, added_twice}
use Rattle.jfr_show.proofs.TallyLaws.{tally_path}

-- Names compare as equal if they have the same bytes.
tied : (a b : List ℕ) → eq_by_cmp (slice_cmp nat_cmp) a b ≡ bytes_eq b a
tied a b = (eq_by_cmp_equiv nat_list_cmp_total).symm a b ∙ is_eq-slice_cmp b a

-- What is put under an event's name.
abbrev entry : List Occurrence → Occurrence → List ℕ × Tally
entry all e = (e.name, tally_of (of_name e.name all))

-- The tally of all events, if there are any.
some_of : List Occurrence → Tally → Option Tally
some_of [] t = None
some_of (e ∷ es) t = Some t

-- What is found under a name.
found : (all es : List Occurrence) (q : List ℕ) → find (slice_cmp nat_cmp) q (map (entry all) es) ≡ some_of (of_name q es) (tally_of (of_name q all))
unfolding some_of
found all [] q = refl
found all (e ∷ es) q =
    ap (λ b. cond b (Some (tally_of (of_name e.name all))) (find (slice_cmp nat_cmp) q (map (entry all) es))) (tied q e.name) ∙ by_name (bytes_eq e.name q) refl (found all es q)
  where
    by_name : (b : Bool) → bytes_eq e.name q ≡ b → find (slice_cmp nat_cmp) q (map (entry all) es) ≡ some_of (of_name q es) (tally_of (of_name q all))
        → cond b (Some (tally_of (of_name e.name all))) (find (slice_cmp nat_cmp) q (map (entry all) es)) ≡ some_of (cond b (e ∷ of_name q es) (of_name q es)) (tally_of (of_name q all))
    by_name true is h = ap (λ n. Some (tally_of (of_name n all))) ((bytes_eq-Decides e.name q).0 is)
    by_name false is h = h

none_less : (t : Tally) → both no_tally t ≡ t
none_less t = tally_path _ _ (omega arith) (omega arith)

some_added : (es : List Occurrence) → some_of es (tally_of es) ≡ added None (tally_of es)
unfolding some_of
some_added [] = refl
some_added (e ∷ es) = sym (added_some None (length es) (tally_of (e ∷ es)) refl ∙ ap Some (none_less (tally_of (e ∷ es))))

-- Under each name the events of that name are added to nothing.
get-tallies_of : (es : List Occurrence) (q : List ℕ) → fin.get (tallies_of es) q ≡ added None (tally_of (of_name q es))
get-tallies_of es q = get-from_entries nat_list_cmp_total (map (entry es) es) q ∙ (found es es q ∙ some_added (of_name q es))

of_name-append : (q : List ℕ) (xs ys : List Occurrence) → of_name q (xs ++ ys) ≡ of_name q xs ++ of_name q ys
of_name-append q [] ys = refl
of_name-append q (x ∷ xs) ys = by_name (bytes_eq x.name q) (of_name-append q xs ys)
  where
    by_name : (b : Bool) → of_name q (xs ++ ys) ≡ of_name q xs ++ of_name q ys → cond b (x ∷ of_name q (xs ++ ys)) (of_name q (xs ++ ys)) ≡ cond b (x ∷ of_name q xs) (of_name q xs) ++ of_name q ys
    by_name true h = ap (λ es. x ∷ es) h
    by_name false h = h

-- Events that are added to the tallies of others.
pub tallies_next : (ds es : List Occurrence) (now : Tallies) → AddsEvents (tallies_of ds) es now → now ≡ tallies_of (ds ++ es)
tallies_next ds es now a =
    same_map nat_list_cmp_total (slice_cmp-IsAntisymmetric nat_cmp-IsAntisymmetric) now (tallies_of (ds ++ es)) (λ q.
    a.each q
    ∙ (ap (λ o. added o (tally_of (of_name q es))) (get-tallies_of ds q)
    ∙ (added_twice None (of_name q ds) (of_name q es)
    ∙ (ap (λ xs. added None (tally_of xs)) (sym (of_name-append q ds es))
    ∙ sym (get-tallies_of (ds ++ es) q)))))

first_next : (ps : List Parts) (p : Parts)
    → option_or (option_map (λ p. beginning_of (header_in p)) (slice_get ps 0)) (Some (beginning_of (header_in p))) ≡ option_map (λ p. beginning_of (header_in p)) (slice_get (ps ++ p ∷ []) 0)
first_next [] p = refl
first_next (x ∷ xs) p = refl

all_next : (ps : List Parts) (p : Parts) → flat_map occurrences ps ++ occurrences p ≡ flat_map occurrences (ps ++ p ∷ [])
all_next ps p = sym (flat_map-append occurrences ps (p ∷ []) ∙ ap (λ es. flat_map occurrences ps ++ es) (append-nil (occurrences p)))

-- The numbers of a chunk.
pub record AreNumbers (p : Parts) (n0 n1 n2 n3 n4 n5 : ℕ) : Type 0 where
  pub size : n0 ≡ length p.bytes
  pub duration : n1 ≡ (header_in p).duration_nanos
  pub events : n2 ≡ length (events_of p)
  pub checkpoints : n3 ≡ length p.chain
  pub constants : n4 ≡ count_in_force p.entries
  pub inert : n5 ≡ length (filter (is_inert p) p.records)

totals_next : (ps : List Parts) (p : Parts) (first : Option Beginning) (size duration events checkpoints constants inert : ℕ) (m : Tallies)
    → first ≡ option_or (totals_of ps).first (Some (beginning_of (header_in p))) → AreNumbers p size duration events checkpoints constants inert → AddsEvents (totals_of ps).tallies (occurrences p) m
    → record { first = first; chunks = (totals_of ps).chunks + 1; bytes = (totals_of ps).bytes + size; duration = (totals_of ps).duration + duration; events = (totals_of ps).events + events; checkpoints = (totals_of ps).checkpoints + checkpoints; constants = (totals_of ps).constants + constants; inert = (totals_of ps).inert + inert; tallies = m } ≡ totals_of (ps ++ p ∷ [])
unfolding totals_of
totals_next ps p first size duration events checkpoints constants inert m f n a =
    let q0 = f ∙ first_next ps p in
    let q1 = sym (length_push ps p) in
    let q2 = ap (λ x. sum_by (λ (p : Parts). length p.bytes) ps + x) n.size ∙ sym (sum_by_push (λ (p : Parts). length p.bytes) ps p) in
    let q3 = ap (λ x. sum_by (λ (p : Parts). (header_in p).duration_nanos) ps + x) n.duration ∙ sym (sum_by_push (λ (p : Parts). (header_in p).duration_nanos) ps p) in
    let q4 = ap (λ x. sum_by (λ (p : Parts). length (events_of p)) ps + x) n.events ∙ sym (sum_by_push (λ (p : Parts). length (events_of p)) ps p) in
    let q5 = ap (λ x. sum_by (λ (p : Parts). length p.chain) ps + x) n.checkpoints ∙ sym (sum_by_push (λ (p : Parts). length p.chain) ps p) in
    let q6 = ap (λ x. sum_by (λ (p : Parts). count_in_force p.entries) ps + x) n.constants ∙ sym (sum_by_push (λ (p : Parts). count_in_force p.entries) ps p) in
    let q7 = ap (λ x. sum_by (λ (p : Parts). length (filter (is_inert p) p.records)) ps + x) n.inert ∙ sym (sum_by_push (λ (p : Parts). length (filter (is_inert p) p.records)) ps p) in
    let q8 = tallies_next (flat_map occurrences ps) (occurrences p) m a ∙ ap tallies_of (all_next ps p) in
    λ i. record { first = q0 i; chunks = q1 i; bytes = q2 i; duration = q3 i; events = q4 i; checkpoints = q5 i; constants = q6 i; inert = q7 i; tallies = q8 i }

-- Totals with these numbers more.
abbrev pub more : Totals → Option Beginning → (n0 n1 n2 n3 n4 n5 : ℕ) → Tallies → Totals
more t first n0 n1 n2 n3 n4 n5 m = record {
  first = first;
  chunks = t.chunks + 1;
  bytes = t.bytes + n0;
  duration = t.duration + n1;
  events = t.events + n2;
  checkpoints = t.checkpoints + n3;
  constants = t.constants + n4;
  inert = t.inert + n5;
  tallies = m;
}

pub totals_added : (t : Totals) (ps : List Parts) (p : Parts) (first : Option Beginning) (n0 n1 n2 n3 n4 n5 : ℕ) (m : Tallies) → t ≡ totals_of ps
    → first ≡ option_or t.first (Some (beginning_of (header_in p))) → AreNumbers p n0 n1 n2 n3 n4 n5 → AddsEvents t.tallies (occurrences p) m
    → more t first n0 n1 n2 n3 n4 n5 m ≡ totals_of (ps ++ p ∷ [])
totals_added t ps p first n0 n1 n2 n3 n4 n5 m e f n a =
    subst (λ (t : Totals). first ≡ option_or t.first (Some (beginning_of (header_in p))) → AddsEvents t.tallies (occurrences p) m → more t first n0 n1 n2 n3 n4 n5 m ≡ totals_of (ps ++ p ∷ [])) (sym e)
    (λ f a. totals_next ps p first n0 n1 n2 n3 n4 n5 m f n a) f a
