-- The parts of chunks, one after another.
use Rattle.std.proofs.Common.{◌≡◌, ℕ, ◌∙◌, refl, sym, ap, subst, List, [], ◌∷◌, ◌++◌, Result, Ok, Err, OnOk}
use Rattle.jfr_header.specs.declared.ending.Ending.{Ending}
use Rattle.jfr_base.specs.declared.flaw.Flaw.{Flaw}
use Rattle.jfr_chunk.specs.Parts.{Parts}
use Rattle.jfr_chunk.specs.Refusal.{read_parts}
use Rattle.jfr_report.specs.Reports.{parts_with, all_parts}

parts_first : (r : Result Parts Flaw) (ps : List Parts) (p : Parts) → parts_with r (ps ++ p ∷ []) ≡ parts_with r ps ++ p ∷ []
parts_first (Ok q) ps p = refl
parts_first (Err f) ps p = refl

-- A chunk more that is accepted.
pub parts_more : (cs : List (List ℕ)) (c : List ℕ) (p : Parts) → read_parts c ≡ Ok p → all_parts (cs ++ c ∷ []) ≡ all_parts cs ++ p ∷ []
parts_more [] c p e = ap (λ r. parts_with r []) e
parts_more (d ∷ ds) c p e = ap (parts_with (read_parts d)) (parts_more ds c p e) ∙ parts_first (read_parts d) (all_parts ds) p

-- What is seen of the parts so far.
pub seen_more : (Seen : List Parts → Type 0) (result : Result (Unit {0}) Ending) (cs : List (List ℕ)) (c : List ℕ) (p : Parts) → read_parts c ≡ Ok p → OnOk result (Seen (all_parts cs ++ p ∷ []))
    → OnOk result (Seen (all_parts (cs ++ c ∷ [])))
seen_more Seen result cs c p e h = subst (λ ps. OnOk result (Seen ps)) (sym (parts_more cs c p e)) h
