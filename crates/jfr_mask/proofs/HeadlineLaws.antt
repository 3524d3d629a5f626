-- What holds of each masked chunk holds of the chunks of a recording.
use Rattle.std.specs.Prelude.{ℕ, ◌<◌, ◌^◌, Bool, List, [], ◌∷◌, length}
use Rattle.jfr_header.specs.Fronts.{Whole}
use Rattle.jfr_chunk.specs.Parts.{AreParts, Parts}
use Rattle.jfr_chunk.specs.Reach.{kept_by}
use Rattle.jfr_mask.specs.Headline.{AllFit, AllMasked, IsMasked}
use Rattle.jfr_mask.specs.MaskOf.{Chosen, Masking, mask_of, next_dictionary}

abbrev pub EachIsMasked : Type 0
EachIsMasked = (m : Masking) (d : List (List ℕ)) (p : Parts) (flags : List Bool) → AreParts p → Whole p.bytes → length (mask_of m d p (kept_by p flags)) < 2 ^ 30
    → IsMasked m d p (kept_by p flags)

pub all_masked : EachIsMasked → (m : Masking) (d : List (List ℕ)) (cs : List Chosen) → AllFit m d cs → AllMasked m d cs
all_masked each m d [] f = tt
all_masked each m d (c ∷ cs) f = (each m d c.parts c.flags f.0.0 f.0.1 f.0.2, all_masked each m (next_dictionary m d c) cs f.1)
