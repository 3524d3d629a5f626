-- The sample of seed 0 and seven events, by its definition.
use Rattle.std.proofs.Common.{◌≡◌, ◌+◌, [], ◌∷◌, ◌++◌, map, length, refl}
use Rattle.std.specs.List.{range_with_len}
use Rattle.std.specs.Fmt.{digits}
use Rattle.jfr_base.specs.Integer.{spell, spell_in}
use Rattle.jfr_sample.specs.Sample.{draw, key_of, event, entry, events_to, before_checkpoint, checkpoint}
use Rattle.jfr_sample.specs.Metadata.{metadata}

draws : map (draw 0) (range_with_len 1 7) ≡ 1013904223 ∷ 1196435762 ∷ 3519870697 ∷ 2868466484 ∷ 1649599747 ∷ 2670642822 ∷ 1476291629 ∷ []
unfolding draw
draws = refl

keys : map (λ i. key_of 7 (draw 0 i)) (range_with_len 1 7) ≡ 6 ∷ 7 ∷ 4 ∷ 6 ∷ 5 ∷ 1 ∷ 4 ∷ []
unfolding draw
keys = refl

events : events_to 0 7 7 ≡
    (135 ∷ 128 ∷ 128 ∷ 0 ∷ 8 ∷ 1 ∷ 6 ∷ []) ++ (135 ∷ 128 ∷ 128 ∷ 0 ∷ 8 ∷ 2 ∷ 7 ∷ []) ++ (134 ∷ 128 ∷ 128 ∷ 0 ∷ 9 ∷ 4 ∷ [])
    ++ (134 ∷ 128 ∷ 128 ∷ 0 ∷ 9 ∷ 6 ∷ []) ++ (135 ∷ 128 ∷ 128 ∷ 0 ∷ 8 ∷ 5 ∷ 5 ∷ []) ++ (134 ∷ 128 ∷ 128 ∷ 0 ∷ 9 ∷ 1 ∷ [])
    ++ (135 ∷ 128 ∷ 128 ∷ 0 ∷ 8 ∷ 7 ∷ 4 ∷ [])
unfolding draw event spell spell_in
events = refl

constants : checkpoint 7 ≡
    (175 ∷ 128 ∷ 128 ∷ 0 ∷ 1 ∷ 0 ∷ 0 ∷ 0 ∷ 0 ∷ 1 ∷ 7 ∷ 7 ∷ [])
    ++ (1 ∷ 2 ∷ 3 ∷ 1 ∷ 49 ∷ []) ++ (2 ∷ 3 ∷ 3 ∷ 1 ∷ 50 ∷ []) ++ (3 ∷ 1 ∷ 3 ∷ 1 ∷ 51 ∷ []) ++ (4 ∷ 5 ∷ 3 ∷ 1 ∷ 52 ∷ [])
    ++ (5 ∷ 6 ∷ 3 ∷ 1 ∷ 53 ∷ []) ++ (6 ∷ 4 ∷ 3 ∷ 1 ∷ 54 ∷ []) ++ (7 ∷ 8 ∷ 3 ∷ 1 ∷ 55 ∷ [])
unfolding checkpoint entry spell spell_in digits
constants = refl

size : 68 + length (before_checkpoint 0 7) + length (checkpoint 7) ≡ 418
unfolding draw event checkpoint entry metadata spell spell_in digits
size = refl
