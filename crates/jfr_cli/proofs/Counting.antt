-- Which counts rose, over a place and the output sink.
use Rattle.std.specs.Prelude.{◌≡◌, ◌≢◌, ◌<◌, ℕ}
use Rattle.std.proofs.Common.{ap, arith, refl}
use Rattle.jfr_outside.specs.World.{State, SinkState}
use Rattle.jfr_header.specs.declared.ending.Ending.{Ending}
use Rattle.jfr_header.specs.declared.ending.Ending.TheVariants.{Done, Refused, ReadFault, WriteFault, TooManyParts, MaskTooLong, Memory}
use Rattle.jfr_plan.specs.Ends.{CommandEnd, Ends, NotRead, NotWritten, RanOut, command_end}
use Rattle.jfr_plan.specs.Effects.{Outside, outside, without_sink}
use Rattle.jfr_plan.specs.Rules.{Target, File, Parts, Masked, Text}
use Rattle.jfr_plan.specs.Outcomes.{Unchanged, Counted, Tallied}
use Rattle.jfr_cli.specs.Runs as runs
use Rattle.jfr_cli.specs.Runs.{CountsOnce}

-- A call that has no part in the sink leaves it.
pub lifted : (ended : CommandEnd) (p q : State) (s : SinkState) → Tallied File ended (without_sink p) (without_sink q) → Tallied File ended (outside p s) (outside q s)
lifted (Ends e) p q s h = (h.0, (h.1.0, h.1.1, refl, h.1.3))
lifted NotRead p q s h = (h.0, h.1, refl, h.3)
lifted NotWritten p q s h = (h.0, h.1, refl, h.3)
lifted RanOut p q s h = (h.0, h.1, refl, h.3)

pub lifted_parts : (ended : CommandEnd) (p q : State) (s : SinkState) → Tallied Parts ended (without_sink p) (without_sink q) → Tallied Parts ended (outside p s) (outside q s)
lifted_parts (Ends e) p q s h = (h.0, (h.1.0, h.1.1, refl, h.1.3))
lifted_parts NotRead p q s h = (h.0, h.1, refl, h.3)
lifted_parts NotWritten p q s h = (h.0, h.1, refl, h.3)
lifted_parts RanOut p q s h = (h.0, h.1, refl, h.3)

pub lifted_masked : (ended : CommandEnd) (p q : State) (s : SinkState) → Tallied Masked ended (without_sink p) (without_sink q) → Tallied Masked ended (outside p s) (outside q s)
lifted_masked (Ends e) p q s h = (h.0, (h.1.0, h.1.1, refl, h.1.3))
lifted_masked NotRead p q s h = (h.0, h.1, refl, h.3)
lifted_masked NotWritten p q s h = (h.0, h.1, refl, h.3)
lifted_masked RanOut p q s h = (h.0, h.1, refl, h.3)

-- No count rose.
pub none_rose : (a b : Outside) → b ≡ a → Counted Unchanged Unchanged Unchanged a b
none_rose a b e = (ap (λ (x : Outside). x.place.read_faults) e, ap (λ (x : Outside). x.place.write_faults) e, ap (λ (x : Outside). x.sink.faults) e, ap (λ (x : Outside). x.place.steady) e)

-- At most one count rose.
written_once : (t : Target) (a b : Outside) → Tallied t NotWritten a b → CountsOnce a b
written_once File a b h = runs.WritesRose h
written_once Parts a b h = runs.WritesRose h
written_once Masked a b h = runs.WritesRose h
written_once Text a b h = runs.TextsRose h

pub tallied_once : (t : Target) (ended : CommandEnd) (a b : Outside) → Tallied t ended a b → CountsOnce a b
tallied_once t (Ends e) a b h = runs.NoneRose h.1
tallied_once t NotRead a b h = runs.ReadsRose h
tallied_once t NotWritten a b h = written_once t a b h
tallied_once t RanOut a b h = runs.NoneRose h

-- Work that writes text makes no write fault of the place.
pub text_leaves : (ended : CommandEnd) (a b : Outside) → Tallied Text ended a b → b.place.write_faults ≡ a.place.write_faults
text_leaves (Ends e) a b h = h.1.1
text_leaves NotRead a b h = h.1
text_leaves NotWritten a b h = h.1
text_leaves RanOut a b h = h.1

no_less : (n m : ℕ) → m ≡ n → n < m → ⊥
no_less n m e h = omega (arith, e, h)

-- A write to the place, or to the sink, that failed isn't passed over.
pub place_passed : (t : Target) (e : Ending) (a b : Outside) → Tallied t (command_end e) a b → a.place.write_faults < b.place.write_faults → e ≡ WriteFault
place_passed t Done a b h l = absurd (no_less a.place.write_faults b.place.write_faults h.1.1 l)
place_passed t (Refused r) a b h l = absurd (no_less a.place.write_faults b.place.write_faults h.1.1 l)
place_passed t TooManyParts a b h l = absurd (no_less a.place.write_faults b.place.write_faults h.1.1 l)
place_passed t (MaskTooLong n) a b h l = absurd (no_less a.place.write_faults b.place.write_faults h.1.1 l)
place_passed t ReadFault a b h l = absurd (no_less a.place.write_faults b.place.write_faults h.1 l)
place_passed t Memory a b h l = absurd (no_less a.place.write_faults b.place.write_faults h.1 l)
place_passed t WriteFault a b h l = refl

pub sink_passed : (t : Target) (e : Ending) (a b : Outside) → Tallied t (command_end e) a b → a.sink.faults < b.sink.faults → e ≡ WriteFault
sink_passed t Done a b h l = absurd (no_less a.sink.faults b.sink.faults h.1.2 l)
sink_passed t (Refused r) a b h l = absurd (no_less a.sink.faults b.sink.faults h.1.2 l)
sink_passed t TooManyParts a b h l = absurd (no_less a.sink.faults b.sink.faults h.1.2 l)
sink_passed t (MaskTooLong n) a b h l = absurd (no_less a.sink.faults b.sink.faults h.1.2 l)
sink_passed t ReadFault a b h l = absurd (no_less a.sink.faults b.sink.faults h.2 l)
sink_passed t Memory a b h l = absurd (no_less a.sink.faults b.sink.faults h.2 l)
sink_passed t WriteFault a b h l = refl

-- Without a write fault the count of writes to the place stays.
pub writes_stay : (t : Target) (e : Ending) (a b : Outside) → Tallied t (command_end e) a b → e ≢ WriteFault → b.place.write_faults ≡ a.place.write_faults
writes_stay t Done a b h n = h.1.1
writes_stay t (Refused r) a b h n = h.1.1
writes_stay t TooManyParts a b h n = h.1.1
writes_stay t (MaskTooLong k) a b h n = h.1.1
writes_stay t ReadFault a b h n = h.1
writes_stay t Memory a b h n = h.1
writes_stay t WriteFault a b h n = absurd (n refl)
