-- There is a chain or a flaw, never both, and either is what is computed.
use Rattle.std.specs.Prelude.{◌≡◌, ◌≢◌, ℕ, zero, suc, ◌<◌, ◌≤◌, ℤ, pos, negsuc, ◌+ℤ◌, ◌⊎◌, Bool, true, false, ◌&&◌, ◌==◌, nat_lt, List, [], ◌∷◌, length, Option, Some, None, Result, Ok, Err, IsTrue, if◌then◌else◌}
use Rattle.std.proofs.Common.{ap, arith, refl, sym, ◌∙◌, inl, inr, subst}
use Rattle.jfr_base.specs.declared.flaw.Flaw.{Flaw}
use Rattle.jfr_base.specs.declared.reason.Reason.{Reason}
use Rattle.jfr_base.specs.declared.reason.Reason.TheVariants.{ChainDelta}
use Rattle.jfr_base.specs.Formats.{Reads, Fails, Answer, Got, run}
use Rattle.jfr_base.proofs.Exact.{ReadsOrFails, run_reads_or_fails}
use Rattle.jfr_base.proofs.OneAnswer.{reads_computed, fails_computed}
use Rattle.jfr_frame.specs.declared.framed.Framed.{Framed}
use Rattle.jfr_frame.specs.Records.{IsRecord, starts_at, record_end}
use Rattle.jfr_pool.specs.declared.link.Link.{Link}
use Rattle.jfr_pool.specs.Chains.{Delta, head_format, IsLink, StepsTo, IsChain, LeadsAstray, LinkFlaw, ChainFlaw, earlier_place, checkpoint_at, earlier_checkpoint, link_of, before_links, links_after, links_by, chain_within, chain_of}
use Rattle.jfr_pool.proofs.Among.{Among, among_of, contains_of, CheckpointAt, found_checkpoint, some_found, passes, any_found, found_any, count_before, count_less, count_all}

-- Where a delta leads by computing.
pub earlier_step : (at : ℕ) (d : ℤ) (to : ℕ) → earlier_place at (pos at +ℤ d) ≡ Some to → (pos at +ℤ d ≡ pos to) × (to < at)
earlier_step at d to e = by_sum (pos at +ℤ d) refl e
  where
    by_test : (n : ℕ) (b : Bool) → nat_lt n at ≡ b → (if b then Some n else None) ≡ Some to → (n ≡ to) × (n < at)
    by_test n true t e = (cc, grind (arith, t))
    by_test n false t e = cc

    by_sum : (z : ℤ) → pos at +ℤ d ≡ z → earlier_place at z ≡ Some to → (pos at +ℤ d ≡ pos to) × (to < at)
    by_sum (pos n) s e = let f = by_test n (nat_lt n at) refl e in (s ∙ ap pos f.0, subst (λ k. k < at) f.0 f.1)
    by_sum (negsuc n) s e = cc

step_earlier : (at : ℕ) (d : ℤ) (to : ℕ) → pos at +ℤ d ≡ pos to → to < at → earlier_place at (pos at +ℤ d) ≡ Some to
step_earlier at d to e h = let t : nat_lt to at ≡ true = grind arith in ap (earlier_place at) e ∙ rw t refl

-- The links after one depend on the rest only if a checkpoint is found.
links_alike : (d : Delta) (delta : ℤ) (o : Option Framed) (f g : Framed → Result (List Link) Flaw) → ((r : Framed) → o ≡ Some r → f r ≡ g r) → links_after d delta o f ≡ links_after d delta o g
links_alike d (pos zero) o f g h = refl
links_alike d (pos (suc n)) None f g h = refl
links_alike d (pos (suc n)) (Some r) f g h = h r refl
links_alike d (negsuc n) None f g h = refl
links_alike d (negsuc n) (Some r) f g h = h r refl

-- What a delta finds is an earlier checkpoint.
pub record Older (rs : List Framed) (at : ℕ) (d : ℤ) (r : Framed) : Type 0 where
  pub lands : pos at +ℤ d ≡ pos r.at
  pub earlier : r.at < at
  pub there : CheckpointAt rs r.at r

pub older_found : (rs : List Framed) (at : ℕ) (d : ℤ) (r : Framed) → earlier_checkpoint rs (earlier_place at (pos at +ℤ d)) ≡ Some r → Older rs at d r
older_found rs at d r e = by_place (earlier_place at (pos at +ℤ d)) refl e
  where
    by_place : (o : Option ℕ) → earlier_place at (pos at +ℤ d) ≡ o → earlier_checkpoint rs o ≡ Some r → Older rs at d r
    by_place None p e = cc
    by_place (Some to) p e =
        let s = earlier_step at d to p in
        let f = found_checkpoint rs to r e in
        let q : to ≡ r.at = sym f.place in
        record { lands = s.0 ∙ ap pos q; earlier = subst (λ k. k < at) q s.1; there = record { among = f.among; place = refl; type_is = f.type_is } }

-- More turns change nothing.
more_turns : (n m : ℕ) (c : List ℕ) (rs : List Framed) (r : Framed) → count_before rs r.at < n → count_before rs r.at < m → chain_within n c rs r ≡ chain_within m c rs r
more_turns zero m c rs r h i = absurd (omega arith)
more_turns (suc n) zero c rs r h i = absurd (omega arith)
more_turns (suc n) (suc m) c rs r h i = by_head (run head_format c (record_end r) r.body) (λ s j. more_turns n m c rs s (omega arith) (omega arith))
  where
    by_head : (a : Answer Delta) → ((s : Framed) → count_before rs s.at < count_before rs r.at → chain_within n c rs s ≡ chain_within m c rs s)
        → links_by rs r a (chain_within n c rs) ≡ links_by rs r a (chain_within m c rs)
    by_head (Err f) next = refl
    by_head (Ok g) next =
        ap (before_links (link_of r g.value))
        (links_alike g.value g.value.value (earlier_checkpoint rs (earlier_place r.at (pos r.at +ℤ g.value.value))) (chain_within n c rs) (chain_within m c rs)
        (λ s e. let o = older_found rs r.at g.value.value s e in next s (count_less rs r.at s o.there.among o.earlier)))

-- One turn of the chain.
pub chain_turn : (c : List ℕ) (rs : List Framed) (r : Framed) → Among rs r → chain_of c rs r ≡ links_by rs r (run head_format c (record_end r) r.body) (chain_of c rs)
unfolding chain_of
chain_turn c rs r a = let i = count_all rs r a in more_turns (length rs) (suc (length rs)) c rs r i (omega arith)

-- Where the head of a checkpoint ends.
head_end : (c : List ℕ) (end at : ℕ) (d : Delta) (to : ℕ) → Reads head_format c end at d to → to ≡ d.end
head_end c end at d to h = h.5.5.5.1 ∙ sym (ap (λ (z : Delta). z.end) h.5.5.5.0)

module _ (c : List ℕ) (rs : List Framed) (records : (r : Framed) → Among rs r → IsRecord c r) where
  body_in : (r : Framed) → Among rs r → (r.body ≤ record_end r) × (record_end r ≤ length c)
  body_in r a = let s = records r a in (s.covers, s.within)

  -- What the chain that is computed says.
  abbrev pub Tells : ℕ → Result (List Link) Flaw → Type 0
  Tells at (Ok ls) = IsChain c rs at ls
  Tells at (Err f) = (ls : List Link) × ChainFlaw c rs at ls f.offset f.reason

  is_link : (r : Framed) (g : Got Delta) → CheckpointAt rs r.at r → Reads head_format c (record_end r) r.body g.value g.place → IsLink c rs (link_of r g.value)
  is_link r g a h = record {
    framed = contains_of rs r a.among;
    checkpoint = a.type_is;
    head = subst (λ (z : ℕ). Reads head_format c (record_end r) r.body g.value z)
        (head_end c (record_end r) r.body g.value g.place h) h;
  }

  one_link : (l : Link) (at : ℕ) → IsLink c rs l → l.frame.at ≡ at → l.delta ≡ pos 0 → IsChain c rs at (l ∷ [])
  one_link l at i e d = (i, e, d)

  -- A link followed by what is known of the older checkpoint.
  tells_step : (l : Link) (at : ℕ) (r : Framed) → IsLink c rs l → l.frame.at ≡ at → StepsTo at l.delta r.at → IsTrue (starts_at rs r.at 1) → (a : Result (List Link) Flaw) → Tells r.at a
      → Tells at (before_links l a)
  tells_step l at r i e s t (Err f) h = (l ∷ h.0, (i, e, r.at, s, t, h.1))
  tells_step l at r i e s t (Ok []) h = absurd h
  tells_step l at r i e s t (Ok (m ∷ [])) h =
      let q : r.at ≡ m.frame.at = sym h.1 in
      (i, e, subst (λ (z : ℕ). StepsTo at l.delta z) q s, subst (λ (z : ℕ). IsChain c rs z (m ∷ [])) q h)
  tells_step l at r i e s t (Ok (m ∷ k ∷ ms)) h =
      let q : r.at ≡ m.frame.at = sym h.1 in
      (i, e, subst (λ (z : ℕ). StepsTo at l.delta z) q s, subst (λ (z : ℕ). IsChain c rs z (m ∷ k ∷ ms)) q h)

  astray : (at : ℕ) (d : ℤ) → (d ≡ pos 0 → ⊥) → earlier_checkpoint rs (earlier_place at (pos at +ℤ d)) ≡ None → LeadsAstray rs at d
  astray at d n e = record {
    moves = n;
    nowhere = λ to s t. none to (ap (earlier_checkpoint rs) (sym (step_earlier at d to s.lands s.earlier)) ∙ e) t;
  }
    where
      none : (to : ℕ) → checkpoint_at rs to ≡ None → IsTrue (starts_at rs to 1) → ⊥
      none to p t = let f = any_found rs to t in clash f.0 (checkpoint_at rs to) f.1 p
        where
          clash : (r : Framed) (o : Option Framed) → o ≡ Some r → o ≡ None → ⊥
          clash r o p q = cc

  abbrev Behind : Framed → Delta → ℤ → Option Framed → (Framed → Result (List Link) Flaw) → Type 0
  Behind r d delta o next = Tells r.at (before_links (link_of r d) (links_after d delta o next))

  not_zero : (n : ℕ) → pos (suc n) ≡ pos 0 → ⊥
  not_zero n e = cc

  tells_behind : (r : Framed) (d : Delta) (delta : ℤ) (o : Option Framed) (next : Framed → Result (List Link) Flaw) → IsLink c rs (link_of r d) → CheckpointAt rs r.at r
      → Reads head_format c (record_end r) r.body d d.end
      → d.value ≡ delta → earlier_checkpoint rs (earlier_place r.at (pos r.at +ℤ d.value)) ≡ o → ((s : Framed) → o ≡ Some s → Tells s.at (next s)) → Behind r d delta o next
  tells_behind r d delta o next i a h v e k = by_cases delta o v e k
    where
      fault : (d.value ≡ pos 0 → ⊥) → earlier_checkpoint rs (earlier_place r.at (pos r.at +ℤ d.value)) ≡ None → (ls : List Link) × ChainFlaw c rs r.at ls d.at ChainDelta
      fault n e = ([], (r, contains_of rs r a.among, refl, inr (d, h, refl, refl, astray r.at d.value n e)))

      goes : (s : Framed) → (d.value ≡ pos 0 → ⊥) → earlier_checkpoint rs (earlier_place r.at (pos r.at +ℤ d.value)) ≡ Some s → Tells s.at (next s) → Tells r.at (before_links (link_of r d) (next s))
      goes s n e k =
          let f = older_found rs r.at d.value s e in
          tells_step (link_of r d) r.at s i refl (record { moves = n; lands = f.lands; earlier = f.earlier }) (by_there s f.there) (next s) k
        where
          by_there : (s : Framed) → CheckpointAt rs s.at s → IsTrue (starts_at rs s.at 1)
          by_there s t = let g = some_found (λ (z : Framed). (z.at == s.at) && (z.type_id == 1)) rs s t.among (passes s.at s refl t.type_is) in found_any rs s.at g.0 g.1

      by_cases : (delta : ℤ) (o : Option Framed) → d.value ≡ delta → earlier_checkpoint rs (earlier_place r.at (pos r.at +ℤ d.value)) ≡ o → ((s : Framed) → o ≡ Some s → Tells s.at (next s))
          → Behind r d delta o next
      by_cases (pos zero) o v e k = (i, refl, v)
      by_cases (pos (suc n)) None v e k = fault (λ z. not_zero n (sym v ∙ z)) e
      by_cases (pos (suc n)) (Some s) v e k = goes s (λ z. not_zero n (sym v ∙ z)) e (k s refl)
      by_cases (negsuc n) None v e k = fault (λ z. cc) e
      by_cases (negsuc n) (Some s) v e k = goes s (λ z. cc) e (k s refl)

  within_tells : (n : ℕ) (r : Framed) → CheckpointAt rs r.at r → count_before rs r.at < n → Tells r.at (chain_within n c rs r)
  within_tells zero r a h = absurd (omega arith)
  within_tells (suc n) r a h =
      let b = body_in r a.among in
      by_head (run head_format c (record_end r) r.body) (run_reads_or_fails head_format c (record_end r) r.body b.0 b.1) (λ s t j. within_tells n s t (omega arith))
    where
      by_head : (g : Answer Delta) → ReadsOrFails head_format c (record_end r) r.body g
          → ((s : Framed) → CheckpointAt rs s.at s → count_before rs s.at < count_before rs r.at → Tells s.at (chain_within n c rs s)) → Tells r.at (links_by rs r g (chain_within n c rs))
      by_head (Err f) h next = ([], (r, contains_of rs r a.among, refl, inl h))
      by_head (Ok g) h next =
          tells_behind r g.value g.value.value (earlier_checkpoint rs (earlier_place r.at (pos r.at +ℤ g.value.value))) (chain_within n c rs)
          (is_link r g a h) a (subst (λ (z : ℕ). Reads head_format c (record_end r) r.body g.value z) (head_end c (record_end r) r.body g.value g.place h) h) refl refl
          (λ s e. let o = older_found rs r.at g.value.value s e in next s o.there (count_less rs r.at s o.there.among o.earlier))

  pub chain_tells : (r : Framed) → CheckpointAt rs r.at r → Tells r.at (chain_of c rs r)
  unfolding chain_of
  chain_tells r a = within_tells (length rs) r a (count_all rs r a.among)

  -- And back: a chain, or its flaw, is what is computed.
  module _ (one : (r s : Framed) → Among rs r → Among rs s → r.at ≡ s.at → r ≡ s) where
    found_there : (r : Framed) → CheckpointAt rs r.at r → checkpoint_at rs r.at ≡ Some r
    found_there r a =
        let f = some_found (λ (z : Framed). (z.at == r.at) && (z.type_id == 1)) rs r a.among (passes r.at r refl a.type_is) in
        let g = found_checkpoint rs r.at f.0 f.1 in
        f.1 ∙ ap (λ z. Some z) (one f.0 r g.among a.among g.place)

    linked_frame : (l : Link) (at : ℕ) (r : Framed) → IsLink c rs l → l.frame.at ≡ at → CheckpointAt rs at r → l.frame ≡ r
    linked_frame l at r i e a = one l.frame r (among_of rs l.frame i.framed) a.among (e ∙ sym a.place)

    head_read : (r : Framed) → Among rs r → (d : Delta) (to : ℕ) → Reads head_format c (record_end r) r.body d to → run head_format c (record_end r) r.body ≡ Ok (record { value = d; place = to })
    head_read r a d to h = let b = body_in r a in reads_computed c (record_end r) b.1 head_format r.body d to b.0 h

    abbrev delta_of : Link → Delta
    delta_of l = record { at = l.delta_at; end = l.delta_end; value = l.delta }

    -- One turn over a link.
    turn_over : (l : Link) → IsLink c rs l → (next : Framed → Result (List Link) Flaw)
        → links_by rs l.frame (run head_format c (record_end l.frame) l.frame.body) next ≡ before_links l (links_after (delta_of l) l.delta (earlier_checkpoint rs (earlier_place l.frame.at (pos l.frame.at +ℤ l.delta))) next)
    turn_over l i next = ap (λ a. links_by rs l.frame a next) (head_read l.frame (among_of rs l.frame i.framed) (delta_of l) l.delta_end i.head)

    last_behind : (d : Delta) (delta : ℤ) (o : Option Framed) (next : Framed → Result (List Link) Flaw) → delta ≡ pos 0 → links_after d delta o next ≡ Ok []
    last_behind d delta o next e = ap (λ z. links_after d z o next) e

    goes_behind : (d : Delta) (delta : ℤ) (r : Framed) (next : Framed → Result (List Link) Flaw) → delta ≢ pos 0 → links_after d delta (Some r) next ≡ next r
    goes_behind d (pos zero) r next n = absurd (n refl)
    goes_behind d (pos (suc k)) r next n = refl
    goes_behind d (negsuc k) r next n = refl

    none_after : (d : Delta) (delta : ℤ) (next : Framed → Result (List Link) Flaw) → delta ≢ pos 0 → links_after d delta None next ≡ Err (record { offset = d.at; reason = ChainDelta })
    none_after d (pos zero) next n = absurd (n refl)
    none_after d (pos (suc k)) next n = refl
    none_after d (negsuc k) next n = refl

    older_is : (at : ℕ) (d : ℤ) (r : Framed) → StepsTo at d r.at → CheckpointAt rs r.at r → earlier_checkpoint rs (earlier_place at (pos at +ℤ d)) ≡ Some r
    older_is at d r s a = ap (earlier_checkpoint rs) (step_earlier at d r.at s.lands s.earlier) ∙ found_there r a

    is_checkpoint : (l : Link) → IsLink c rs l → CheckpointAt rs l.frame.at l.frame
    is_checkpoint l i = record { among = among_of rs l.frame i.framed; place = refl; type_is = i.checkpoint }

    first_link : (at : ℕ) (m : Link) (ls : List Link) → IsChain c rs at (m ∷ ls) → IsLink c rs m
    first_link at m [] h = h.0
    first_link at m (k ∷ ls) h = h.0

    -- A link and what is computed of the older checkpoint.
    turn_on : (l : Link) (r : Framed) → IsLink c rs l → StepsTo l.frame.at l.delta r.at → CheckpointAt rs r.at r → chain_of c rs l.frame ≡ before_links l (chain_of c rs r)
    turn_on l r i s a =
        chain_turn c rs l.frame (among_of rs l.frame i.framed) ∙ turn_over l i (chain_of c rs)
        ∙ ap (λ o. before_links l (links_after (delta_of l) l.delta o (chain_of c rs))) (older_is l.frame.at l.delta r s a)
        ∙ ap (before_links l) (goes_behind (delta_of l) l.delta r (chain_of c rs) s.moves)

    step_from : (at p : ℕ) (d : ℤ) (to : ℕ) → p ≡ at → StepsTo at d to → StepsTo p d to
    step_from at p d to e s = subst (λ (z : ℕ). StepsTo z d to) (sym e) s

    pub chain_read : (at : ℕ) (ls : List Link) → IsChain c rs at ls → (r : Framed) → CheckpointAt rs at r → chain_of c rs r ≡ Ok ls
    chain_read at [] h r a = absurd h
    chain_read at (l ∷ []) h r a =
        ap (chain_of c rs) (sym (linked_frame l at r h.0 h.1 a)) ∙ chain_turn c rs l.frame (among_of rs l.frame h.0.framed) ∙ turn_over l h.0 (chain_of c rs)
        ∙ ap (before_links l) (last_behind (delta_of l) l.delta (earlier_checkpoint rs (earlier_place l.frame.at (pos l.frame.at +ℤ l.delta))) (chain_of c rs) h.2)
    chain_read at (l ∷ m ∷ ls) h r a =
        let i = first_link m.frame.at m ls h.3 in
        ap (chain_of c rs) (sym (linked_frame l at r h.0 h.1 a))
        ∙ turn_on l m.frame h.0 (step_from at l.frame.at l.delta m.frame.at h.1 h.2) (is_checkpoint m i)
        ∙ ap (before_links l) (chain_read m.frame.at (m ∷ ls) h.3 m.frame (is_checkpoint m i))

    none_earlier : (at : ℕ) (d : ℤ) → LeadsAstray rs at d → earlier_checkpoint rs (earlier_place at (pos at +ℤ d)) ≡ None
    none_earlier at d s = by_found (earlier_checkpoint rs (earlier_place at (pos at +ℤ d))) refl
      where
        by_found : (o : Option Framed) → earlier_checkpoint rs (earlier_place at (pos at +ℤ d)) ≡ o → o ≡ None
        by_found None e = refl
        by_found (Some r) e =
            let f = older_found rs at d r e in
            absurd (s.nowhere r.at (record { moves = s.moves; lands = f.lands; earlier = f.earlier }) (found_any rs r.at r (found_there r f.there)))

    link_fails : (at o : ℕ) (why : Reason) → LinkFlaw c rs at o why → (r : Framed) → CheckpointAt rs at r → chain_of c rs r ≡ Err (record { offset = o; reason = why })
    link_fails at o why (s, i, e, f) r a =
        let q : s ≡ r = one s r (among_of rs s i) a.among (e ∙ sym a.place) in
        ap (chain_of c rs) (sym q) ∙ chain_turn c rs s (among_of rs s i) ∙ by_fault f
      where
        by_fault : (Fails head_format c (record_end s) s.body o why ⊎ ((d : Delta) × Reads head_format c (record_end s) s.body d d.end × (o ≡ d.at) × (why ≡ ChainDelta) × LeadsAstray rs at d.value))
            → links_by rs s (run head_format c (record_end s) s.body) (chain_of c rs) ≡ Err (record { offset = o; reason = why })
        by_fault (inl f) = let b = body_in s (among_of rs s i) in ap (λ a. links_by rs s a (chain_of c rs)) (fails_computed c (record_end s) b.1 head_format s.body o why b.0 f)
        by_fault (inr (d, h, p, w, g)) =
            let flaw : ℕ → Reason → Result (List Link) Flaw = λ o r. Err (record { offset = o; reason = r }) in
            ap (λ a. links_by rs s a (chain_of c rs)) (head_read s (among_of rs s i) d d.end h)
            ∙ ap (λ x. before_links (link_of s d) (links_after d d.value x (chain_of c rs))) (none_earlier s.at d.value (subst (λ (z : ℕ). LeadsAstray rs z d.value) (sym e) g))
            ∙ ap (before_links (link_of s d)) (none_after d d.value (chain_of c rs) g.moves)
            ∙ ap (λ z. flaw z ChainDelta) (sym p) ∙ ap (flaw o) (sym w)

    pub chain_fails : (at : ℕ) (ls : List Link) (o : ℕ) (why : Reason) → ChainFlaw c rs at ls o why → (r : Framed) → CheckpointAt rs at r → chain_of c rs r ≡ Err (record { offset = o; reason = why })
    chain_fails at [] o why h r a = link_fails at o why h r a
    chain_fails at (l ∷ ls) o why (i, e, to, s, t, h) r a =
        let f = any_found rs to t in
        let g = found_checkpoint rs to f.0 f.1 in
        let k : CheckpointAt rs f.0.at f.0 = record { among = g.among; place = refl; type_is = g.type_is } in
        let w : StepsTo l.frame.at l.delta f.0.at = step_from at l.frame.at l.delta f.0.at e (subst (λ (z : ℕ). StepsTo at l.delta z) (sym g.place) s) in
        ap (chain_of c rs) (sym (linked_frame l at r i e a)) ∙ turn_on l f.0 i w k
        ∙ ap (before_links l) (chain_fails to ls o why h f.0 g)
