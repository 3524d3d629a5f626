-- The command that copies each chunk, computed on the plain chunk.
use Rattle.std.specs.Prelude.{◌≡◌, ℕ, List, [], ◌∷◌, ◌++◌, take, Some, None, refl}
use Rattle.jfr_base.specs.declared.reason.Reason.TheVariants.{NoChunk, ShortChunk, ChainDelta}
use Rattle.jfr_header.specs.Fronts.{front, header_flaw}
use Rattle.jfr_header.specs.Cuts.{cut, cut_within}
use Rattle.jfr_plan.specs.Ends.{Fine, Refused}
use Rattle.jfr_plan.specs.Effects.{Create, Append, Finish, Opened, Chunks, AtEnd, effects, keep_met}
use Rattle.jfr_plan.specs.Rules.{Rule, plan_after}
use Rattle.jfr_plan.specs.Makes.{making}

abbrev header : List ℕ
header = 70 ∷ 76 ∷ 82 ∷ 0 ∷ 0 ∷ 2 ∷ 0 ∷ 1 ∷ 0 ∷ 0 ∷ 0 ∷ 0 ∷ 0 ∷ 0 ∷ 0 ∷ 103 ∷ 0 ∷ 0 ∷ 0 ∷ 0 ∷ 0 ∷ 0 ∷ 0 ∷ 96 ∷ 0 ∷ 0 ∷ 0 ∷ 0 ∷ 0 ∷ 0 ∷ 0 ∷ 68 ∷ 0 ∷ 0 ∷ 0 ∷ 0 ∷ 0 ∷ 0 ∷ 3 ∷ 232 ∷ 0 ∷ 0 ∷ 0 ∷ 0 ∷ 0 ∷ 0
    ∷ 0 ∷ 5 ∷ 0 ∷ 0 ∷ 0 ∷ 0 ∷ 0 ∷ 0 ∷ 0 ∷ 0 ∷ 0 ∷ 0 ∷ 0 ∷ 0 ∷ 59 ∷ 154 ∷ 202 ∷ 0 ∷ 0 ∷ 0 ∷ 0 ∷ 1 ∷ []

abbrev plain : List ℕ
plain = header ++ 28 ∷ 0 ∷ 0 ∷ 0 ∷ 1 ∷ 2 ∷ 3 ∷ 4 ∷ 114 ∷ 111 ∷ 111 ∷ 116 ∷ 3 ∷ 8 ∷ 109 ∷ 101 ∷ 116 ∷ 97 ∷ 100 ∷ 97 ∷ 116 ∷ 97 ∷ 0 ∷ 0 ∷ 1 ∷ 1 ∷ 0 ∷ 0 ∷ 7 ∷ 1 ∷ 0 ∷ 0 ∷ 0 ∷ 0 ∷ 0 ∷ []

abbrev copying : Rule
copying = making (98 ∷ []) (λ c. None) (λ c. c)

abbrev refusing : Rule
refusing = making (98 ∷ []) (λ c. Some (record { offset = 100; reason = ChainDelta })) (λ c. c)

-- Two chunks are copied, and the output is finished at the end.
two : plan_after copying [] (Some (plain ++ plain)) ≡ record {
  steps = record { need = Opened; effect = Create (98 ∷ []) } ∷ record { need = Chunks 1; effect = Append plain } ∷ record { need = Chunks 2; effect = Append plain }
      ∷ record { need = AtEnd; effect = Finish } ∷ [];
  end = Some Fine;
}
unfolding cut cut_within front header_flaw
two = refl

-- The second chunk is short, and the output isn't finished.
short : plan_after copying [] (Some (plain ++ take 100 plain)) ≡ record {
  steps = record { need = Opened; effect = Create (98 ∷ []) } ∷ record { need = Chunks 1; effect = Append plain } ∷ [];
  end = Some (Refused (record { chunk = 2; offset = 100; reason = ShortChunk }));
}
unfolding cut cut_within front header_flaw
short = refl

-- An empty file is refused once the output is there.
empty : plan_after copying [] (Some []) ≡ record {
  steps = record { need = Opened; effect = Create (98 ∷ []) } ∷ [];
  end = Some (Refused (record { chunk = 1; offset = 0; reason = NoChunk }));
}
unfolding cut cut_within front header_flaw
empty = refl

-- A refused chunk isn't appended.
refused : plan_after refusing [] (Some plain) ≡ record {
  steps = record { need = Opened; effect = Create (98 ∷ []) } ∷ [];
  end = Some (Refused (record { chunk = 1; offset = 100; reason = ChainDelta }));
}
unfolding cut cut_within front header_flaw
refused = refl

-- The numbers go on after the chunks of earlier files.
later : plan_after copying (plain ∷ plain ∷ []) (Some plain) ≡ record {
  steps = record { need = Opened; effect = Create (98 ∷ []) } ∷ record { need = Chunks 3; effect = Append plain } ∷ record { need = AtEnd; effect = Finish } ∷ [];
  end = Some Fine;
}
unfolding cut cut_within front header_flaw
later = refl

-- Without a file there is no end.
absent : plan_after copying [] None ≡ record { steps = []; end = None }
absent = refl

-- What is met: nothing, the opening, one chunk.
no_input : effects (keep_met None (plan_after copying [] (Some (plain ++ plain))).steps) ≡ []
unfolding cut cut_within front header_flaw
no_input = refl

opened : effects (keep_met (Some 0) (plan_after copying [] (Some (plain ++ plain))).steps) ≡ Create (98 ∷ []) ∷ []
unfolding cut cut_within front header_flaw
opened = refl

one_chunk : effects (keep_met (Some 1) (plan_after copying [] (Some (plain ++ plain))).steps) ≡ Create (98 ∷ []) ∷ Append plain ∷ []
unfolding cut cut_within front header_flaw
one_chunk = refl
