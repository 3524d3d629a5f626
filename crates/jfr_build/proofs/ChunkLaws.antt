-- The parts of a chunk, and its size.
use Rattle.std.specs.Prelude.{◌≡◌, ℕ, ◌+◌, ◌-◌, ◌<◌, ◌≤◌, ◌^◌, Bool, true, false, nat_le, nat_lt, List, [], ◌∷◌, ◌++◌, length, Some, None, option_and_then, if◌then◌else◌}
use Rattle.std.proofs.Common.{ap, arith, length-append, refl, subst, sym, ◌∙◌}
use Rattle.std.proofs.lemmas.List.{append_assoc}
use Rattle.jfr_base.specs.Integer.{spell_in}
use Rattle.jfr_header.specs.declared.header.Header.{Header}
use Rattle.jfr_header.specs.Headers.{header_bytes}
use Rattle.jfr_header.specs.Made.{made_header}
use Rattle.jfr_header.proofs.Layouts.{header_long}
use Rattle.jfr_frame.specs.Written.{record_in}
use Rattle.jfr_frame.proofs.WrittenRecords.{length-record_in}
use Rattle.jfr_layout.specs.Classes.{Classes}
use Rattle.jfr_build.specs.declared.lines.NumberedLine.{NumberedLine}
use Rattle.jfr_build.specs.declared.reason.BuildFault.{BuildFault}
use Rattle.jfr_build.specs.declared.reason.BuildFault.TheVariants.{Refused, Memory}
use Rattle.jfr_build.specs.declared.reason.BuildReason.TheVariants.{TooLarge}
use Rattle.jfr_build.specs.Lines.{IsBadLine, read_lines}
use Rattle.jfr_build.specs.Described.{metadata_record}
use Rattle.jfr_build.specs.Regions.{region_in}
use Rattle.jfr_build.specs.Built.{chunk_with, events_of, checkpoint_of, checkpoint_with, pools_of}
use Rattle.jfr_build.specs.Builds.{IsFault, build_lines, build_of, chunk_of, if_small, line_count, refused}

-- What follows the size of the checkpoint.
abbrev head_and : List ℕ → List ℕ
head_and pools = 1 ∷ 0 ∷ 0 ∷ 0 ∷ 0 ∷ pools

abbrev parts : List ℕ → List ℕ → List ℕ → List ℕ
parts metadata events pools = chunk_with metadata events (checkpoint_with pools)

pub chunk_length : (m e p : List ℕ) → length (parts m e p) ≡ 68 + length m + length e + (10 + length p)
chunk_length m e p =
    let c : List ℕ = record_in 5 (head_and p) in
    let h : Header = made_header (68 + length m + length e + length c) (68 + length m + length e) in
    let a : length (header_bytes h ++ (m ++ (e ++ c))) ≡ length (header_bytes h) + length (m ++ (e ++ c)) = length-append (header_bytes h) (m ++ (e ++ c)) in
    let b : length (m ++ (e ++ c)) ≡ length m + length (e ++ c) = length-append m (e ++ c) in
    let d : length (e ++ c) ≡ length e + length c = length-append e c in
    let f : length c ≡ 5 + length (head_and p) = length-record_in 5 (head_and p) in
    let g : length (header_bytes h) ≡ 68 = header_long h in
    let i : length (head_and p) ≡ 5 + length p = omega arith in
    omega (arith, a, b, d, f, g, i)

small_none : (chunk : List ℕ) → 2 ^ 30 ≤ length chunk → if_small chunk ≡ None
small_none chunk l = let t : nat_lt (length chunk) (2 ^ 30) ≡ false = grind arith in rw t refl

small_some : (chunk : List ℕ) → length chunk < 2 ^ 30 → if_small chunk ≡ Some chunk
small_some chunk l = let t : nat_lt (length chunk) (2 ^ 30) ≡ true = grind arith in rw t refl

-- A number that is below the limit, or isn't.
below_none : (v : ℕ) → None ≡ (if nat_lt v (2 ^ 30) then Some v else None) → 2 ^ 30 ≤ v
below_none v e = by_test (nat_lt v (2 ^ 30)) refl e
  where
    by_test : (t : Bool) → nat_lt v (2 ^ 30) ≡ t → None ≡ (if t then Some v else None) → 2 ^ 30 ≤ v
    by_test true f q = cc
    by_test false f q = grind arith

below_some : (v n : ℕ) → Some n ≡ (if nat_lt v (2 ^ 30) then Some v else None) → (n ≡ v) × (v < 2 ^ 30)
below_some v n e = by_test (nat_lt v (2 ^ 30)) refl e
  where
    by_test : (t : Bool) → nat_lt v (2 ^ 30) ≡ t → Some n ≡ (if t then Some v else None) → (n ≡ v) × (v < 2 ^ 30)
    by_test true f q = let h : n ≡ v = cc in (h, grind arith)
    by_test false f q = cc

pub too_long : (m e p : List ℕ) (last : ℕ) → Some last ≡ (if nat_lt (68 + length m + length e) (2 ^ 30) then Some (68 + length m + length e) else None)
    → None ≡ (if nat_lt (last + (10 + length p)) (2 ^ 30) then Some (last + (10 + length p)) else None) → if_small (parts m e p) ≡ None
too_long m e p last a b =
    let i = (below_some (68 + length m + length e) last a).0 in
    let j = below_none (last + (10 + length p)) b in
    let l = chunk_length m e p in
    small_none (parts m e p) (omega (arith, i, j, l))

-- The chunk from what was appended.
joined : (h m e s : List ℕ) (p : List ℕ) → ((((h ++ m) ++ e) ++ s) ++ (1 ∷ 0 ∷ 0 ∷ 0 ∷ 0 ∷ [])) ++ p ≡ h ++ (m ++ (e ++ (s ++ head_and p)))
joined h m e s p =
    append_assoc (((h ++ m) ++ e) ++ s) (1 ∷ 0 ∷ 0 ∷ 0 ∷ 0 ∷ []) p
    ∙ (append_assoc ((h ++ m) ++ e) s (head_and p)
    ∙ (append_assoc (h ++ m) e (s ++ head_and p) ∙ append_assoc h m (e ++ (s ++ head_and p))))

pub chunk_joined : (m e p chunk : List ℕ) (last size : ℕ) → Some last ≡ (if nat_lt (68 + length m + length e) (2 ^ 30) then Some (68 + length m + length e) else None)
    → Some size ≡ (if nat_lt (last + (10 + length p)) (2 ^ 30) then Some (last + (10 + length p)) else None)
    → chunk ≡ ((((header_bytes (made_header size last) ++ m) ++ e) ++ spell_in 5 (size - last)) ++ (1 ∷ 0 ∷ 0 ∷ 0 ∷ 0 ∷ [])) ++ p → Some chunk ≡ if_small (parts m e p)
chunk_joined m e p chunk last size a b q =
    let i = below_some (68 + length m + length e) last a in
    let j = below_some (last + (10 + length p)) size b in
    let at : last ≡ 68 + length m + length e = i.0 in
    let to : size ≡ last + (10 + length p) = j.0 in
    let l : length (parts m e p) ≡ 68 + length m + length e + (10 + length p) = chunk_length m e p in
    let r : length (record_in 5 (head_and p)) ≡ 5 + length (head_and p) = length-record_in 5 (head_and p) in
    let f : length (head_and p) ≡ 5 + length p = omega arith in
    let whole : size ≡ 68 + length m + length e + length (record_in 5 (head_and p)) = omega (arith, at, to, r, f) in
    let n : size - last ≡ 5 + length (head_and p) = omega (arith, to, f) in
    let low : length (parts m e p) < 2 ^ 30 = omega (arith, l, at, j.1) in
    ap (λ z. Some z) (q ∙ (joined (header_bytes (made_header size last)) m e (spell_in 5 (size - last)) p
    ∙ (ap (λ z. header_bytes (made_header size last) ++ (m ++ (e ++ (spell_in 5 z ++ head_and p)))) n
    ∙ (ap (λ z. header_bytes (made_header z last) ++ (m ++ (e ++ record_in 5 (head_and p)))) whole
    ∙ ap (λ z. header_bytes (made_header (68 + length m + length e + length (record_in 5 (head_and p))) z) ++ (m ++ (e ++ record_in 5 (head_and p)))) at))))
    ∙ sym (small_some (parts m e p) low)

-- The chunk of classes and lines.
pub no_metadata : (k : Classes) (lines : List NumberedLine) → None ≡ metadata_record k (region_in lines) → None ≡ chunk_of k lines
unfolding chunk_of
no_metadata k lines e = ap (option_and_then (λ m. if_small (chunk_with m (events_of k lines) (checkpoint_of k lines)))) e

pub large_events : (k j : Classes) (lines : List NumberedLine) (m : List ℕ) → j ≡ k → Some m ≡ metadata_record k (region_in lines) → 2 ^ 30 ≤ length (events_of j lines) → None ≡ chunk_of k lines
unfolding chunk_of
large_events k j lines m s e l =
    let x : 2 ^ 30 ≤ length (events_of k lines) = subst (λ z. 2 ^ 30 ≤ length (events_of z lines)) s l in
    let n = chunk_length m (events_of k lines) (pools_of k lines) in
    sym (small_none (parts m (events_of k lines) (pools_of k lines)) (omega (arith, x, n))) ∙ ap (option_and_then (λ m. if_small (chunk_with m (events_of k lines) (checkpoint_of k lines)))) e

pub chunk_made : (k j : Classes) (lines : List NumberedLine) (m e p : List ℕ) → j ≡ k → Some m ≡ metadata_record k (region_in lines) → e ≡ events_of j lines → p ≡ pools_of j lines
    → if_small (parts m e p) ≡ chunk_of k lines
unfolding chunk_of
chunk_made k j lines m e p s f g h =
    ap (λ z. if_small (parts m z p)) (g ∙ ap (λ z. events_of z lines) s)
    ∙ (ap (λ z. if_small (parts m (events_of k lines) z)) (h ∙ ap (λ z. pools_of z lines) s)
    ∙ ap (option_and_then (λ m. if_small (chunk_with m (events_of k lines) (checkpoint_of k lines)))) f)

-- The first stages.
pub text_too_large : (text : List ℕ) → 2 ^ 30 ≤ length text → build_of text ≡ refused 0 TooLarge
unfolding build_of
text_too_large text l = let t : nat_le (2 ^ 30) (length text) ≡ true = grind arith in rw t refl

pub text_lines : (text : List ℕ) → length text < 2 ^ 30 → build_of text ≡ build_lines (line_count text) (read_lines text)
unfolding build_of
text_lines text l = let t : nat_le (2 ^ 30) (length text) ≡ false = grind arith in rw t refl

pub bad_line : (text : List ℕ) (fault : BuildFault) → length text < 2 ^ 30 → IsBadLine (read_lines text) fault → IsFault (build_of text) fault
bad_line text (Refused line reason) l b = text_lines text l ∙ (ap (build_lines (line_count text)) b.0 ∙ ap (refused line) (sym b.1))
bad_line text Memory l b = tt
