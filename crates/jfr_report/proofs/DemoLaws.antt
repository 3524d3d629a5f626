-- The lines that are counted.
use Rattle.std.proofs.Common.{◌≡◌, ℕ, ◌≤◌, ◌∙◌, refl, sym, ap, subst, List, ◌++◌, length, Result, Ok, Err, IfOk, None, Some}
use Rattle.std.specs.Prelude.{codes}
use Rattle.std.specs.Str.{chars}
use Rattle.std.proofs.lemmas.Str.{chars-IsAscii}
use Rattle.jfr_base.specs.declared.flaw.Flaw.{Flaw}
use Rattle.jfr_base.proofs.TextLaws.{word_ascii}
use Rattle.jfr_base.specs.declared.memory.NoMemory.{NoMemory}
use Rattle.jfr_filter.specs.Filters.{describes}
use Rattle.jfr_chunk.specs.Parts.{Parts, EventAt}
use Rattle.jfr_chunk.specs.Chosen.{kept_of}
use Rattle.jfr_chunk.specs.Reach.{remain}
use Rattle.jfr_chunk.specs.Refusal.{flaw_in, read_parts, refusal_of}
use Rattle.jfr_chunk.specs.Scrub.{scrub_of}
use Rattle.jfr_sample.specs.Sample.{sample_of}
use Rattle.jfr_report.specs.Demo.{counted, counted_in, lines_of, only_a, sampled}
use Rattle.jfr_report.proofs.SampleAccepted.{sample_accepted}

-- Six lines, one after another.
pub six_lines : (a b c d e f : List ℕ) (t u v w x y : List ℕ) → t ≡ a → u ≡ t ++ b → v ≡ u ++ c → w ≡ v ++ d → x ≡ w ++ e → y ≡ x ++ f → y ≡ a ++ b ++ c ++ d ++ e ++ f
six_lines a b c d e f t u v w x y h i j k l m =
    m ∙ ap (λ z. z ++ f) (l ∙ ap (λ z. z ++ e) (k ∙ ap (λ z. z ++ d) (j ∙ ap (λ z. z ++ c) (i ∙ ap (λ z. z ++ b) h))))

-- The characters of the pattern.
pub a_chars : chars (codes "t.A") ≡ codes "t.A"
a_chars = chars-IsAscii (codes "t.A") (word_ascii (codes "t.A") refl)

-- The lines of a chunk and the scrub with the kept events.
pub lines_by : (result : Result (List ℕ) NoMemory) (p : Parts) (events entries : ℕ) (written : List ℕ) (kept : List EventAt)
    → IfOk result (λ text. (k : List EventAt) → events ≡ length k → entries ≡ length (remain p k) → written ≡ scrub_of (describes only_a) p k → text ≡ lines_of p k)
    → events ≡ length kept → entries ≡ length (remain p kept) → written ≡ scrub_of (describes only_a) p kept → IfOk result (λ text. text ≡ lines_of p kept)
lines_by (Ok text) p events entries written kept h e n w = h kept e n w
lines_by (Err fault) p events entries written kept h e n w = tt

pub counted_by : (result : Result (List ℕ) NoMemory) (p : Parts) → IfOk result (λ text. text ≡ lines_of p (kept_of only_a p)) → IfOk result (λ text. text ≡ counted p)
unfolding counted
counted_by result p h = h

-- The text for the sample, by its bytes.
pub sampled_by : (result : Result (List ℕ) NoMemory) (seed events : ℕ) (bytes : List ℕ) (p : Parts) → bytes ≡ sample_of seed events → read_parts bytes ≡ Ok p → IfOk result (λ text. text ≡ counted p)
    → IfOk result (λ text. text ≡ sampled seed events)
unfolding sampled
sampled_by (Ok text) seed events bytes p e h t = t ∙ sym (ap (λ b. counted_in (read_parts b)) (sym e) ∙ ap counted_in h)
sampled_by (Err fault) seed events bytes p e h t = tt

-- The sample isn't refused.
pub not_refused : (seed events : ℕ) (bytes : List ℕ) (flaw : Flaw) → 1 ≤ events → events ≤ 1000000 → bytes ≡ sample_of seed events → read_parts bytes ≡ Err flaw → ⊥
unfolding refusal_of
not_refused seed events bytes flaw some most e h =
    none_some (sym (sample_accepted seed events some most) ∙ ap refusal_of (sym e) ∙ ap flaw_in h)
  where
    none_some : {X : Type 0} {x : X} → None ≡ Some x → ⊥
    none_some e = cc
