-- How far a chain is read.
use Rattle.std.specs.Prelude.{◌≡◌, ℕ, zero, suc, ◌<◌, ℤ, pos, negsuc, List, [], ◌∷◌, ◌++◌, length, reverse, Option, Some, None, Result, Ok, Err, IsTrue, IfSome, ⊤}
use Rattle.std.proofs.Common.{ap, arith, refl, sym, ◌∙◌, subst, append_assoc}
use Rattle.std.proofs.lemmas.List.{append-nil, reverse-reverse}
use Rattle.jfr_base.specs.declared.flaw.Flaw.{Flaw}
use Rattle.jfr_base.specs.declared.flaw.ReadFault.TheVariants.{Flawed}
use Rattle.jfr_base.specs.Formats.{Answer, run}
use Rattle.jfr_frame.specs.declared.framed.Framed.{Framed}
use Rattle.jfr_frame.specs.Records.{AreRecords, starts_at, record_end}
use Rattle.jfr_pool.specs.declared.link.Link.{Link}
use Rattle.jfr_pool.specs.Chains.{Delta, head_format, IsChain, IsRefusedChain, checkpoint_at, before_links, links_after, links_by, older_by, older_of, linked, link_of, chain_of}
use Rattle.jfr_pool.proofs.Among.{Among, CheckpointAt, found_checkpoint, are_records, any_found}
use Rattle.jfr_pool.proofs.ChainLaws.{older_found, chain_turn, chain_tells, Tells}

-- Links before others, if these are read.
abbrev pub joined : List Link → Result (List Link) Flaw → Result (List Link) Flaw
joined ls (Ok ms) = Ok (ls ++ ms)
joined ls (Err f) = Err f

joined_more : (ls : List Link) (l : Link) (a : Result (List Link) Flaw) → joined ls (before_links l a) ≡ joined (ls ++ l ∷ []) a
joined_more ls l (Ok ms) = ap (λ z. Ok z) (sym (append_assoc ls (l ∷ []) ms))
joined_more ls l (Err f) = refl

joined_none : (a : Result (List Link) Flaw) → joined [] a ≡ a
joined_none (Ok ms) = refl
joined_none (Err f) = refl

-- The chain from a checkpoint on, if there is one.
abbrev pub rest : List ℕ → List Framed → Option Framed → Result (List Link) Flaw
rest c rs None = Ok []
rest c rs (Some r) = chain_of c rs r

abbrev pub IsListed : List Framed → Option Framed → Type 0
IsListed rs None = ⊤
IsListed rs (Some r) = CheckpointAt rs r.at r

-- These links are read, and the chain goes on with the next checkpoint.
pub record Reading (c : List ℕ) (rs : List Framed) (last : ℕ) (links : List Link) (next : Option Framed) : Type 0 where
  pub total : rest c rs (checkpoint_at rs last) ≡ joined links (rest c rs next)
  pub listed : IsListed rs next

pub reading_none : (c : List ℕ) (rs : List Framed) (last : ℕ) (links : List Link) (next : Option Framed) → links ≡ [] → next ≡ checkpoint_at rs last → Reading c rs last links next
reading_none c rs last links next n e = record { total = sym (ap (λ ls. joined ls (rest c rs next)) n ∙ joined_none (rest c rs next) ∙ ap (rest c rs) e); listed = by_found next e }
  where
    by_found : (o : Option Framed) → o ≡ checkpoint_at rs last → IsListed rs o
    by_found None e = tt
    by_found (Some r) e = let f = found_checkpoint rs last r (sym e) in record { among = f.among; place = refl; type_is = f.type_is }

pub reading_at : (c : List ℕ) (rs : List Framed) (last : ℕ) (links : List Link) (next : Option Framed) (r : Framed) → Reading c rs last links next → next ≡ Some r → Reading c rs last links (Some r)
reading_at c rs last links next r h e = subst (Reading c rs last links) e h

abbrev then_rest : List ℕ → List Framed → Result (Option Framed) Flaw → Result (List Link) Flaw
then_rest c rs (Ok o) = rest c rs o
then_rest c rs (Err f) = Err f

-- What follows a link is the rest.
behind_rest : (c : List ℕ) (rs : List Framed) (d : Delta) (delta : ℤ) (o : Option Framed) → links_after d delta o (chain_of c rs) ≡ then_rest c rs (older_by d.at delta o)
behind_rest c rs d (pos zero) o = refl
behind_rest c rs d (pos (suc n)) None = refl
behind_rest c rs d (pos (suc n)) (Some r) = refl
behind_rest c rs d (negsuc n) None = refl
behind_rest c rs d (negsuc n) (Some r) = refl

abbrev after_link : List ℕ → List Framed → Result Link Flaw → Result (List Link) Flaw
after_link c rs (Ok l) = before_links l (then_rest c rs (older_of rs l))
after_link c rs (Err f) = Err f

turn_rest : (c : List ℕ) (rs : List Framed) (r : Framed) (a : Answer Delta) → links_by rs r a (chain_of c rs) ≡ after_link c rs (linked r a)
turn_rest c rs r (Err f) = refl
turn_rest c rs r (Ok g) = ap (before_links (link_of r g.value)) (behind_rest c rs g.value g.value.value _)

chain_after : (c : List ℕ) (rs : List Framed) (r : Framed) → Among rs r → chain_of c rs r ≡ after_link c rs (linked r (run head_format c (record_end r) r.body))
chain_after c rs r a = chain_turn c rs r a ∙ turn_rest c rs r (run head_format c (record_end r) r.body)

older_listed : (rs : List Framed) (l : Link) (o : Option Framed) → older_of rs l ≡ Ok o → IsListed rs o
older_listed rs l None e = tt
older_listed rs l (Some r) e = (older_found rs l.frame.at l.delta r (by_delta l.delta _ e)).there
  where
    by_delta : (d : ℤ) (o : Option Framed) → older_by l.delta_at d o ≡ Ok (Some r) → o ≡ Some r
    by_delta (pos zero) o e = cc
    by_delta (pos (suc n)) None e = cc
    by_delta (pos (suc n)) (Some s) e = cc
    by_delta (negsuc n) None e = cc
    by_delta (negsuc n) (Some s) e = cc

-- Each step goes back.
pub older_earlier : (rs : List Framed) (l : Link) (r : Framed) → older_of rs l ≡ Ok (Some r) → r.at < l.frame.at
older_earlier rs l r e = (older_found rs l.frame.at l.delta r (by_delta l.delta _ e)).earlier
  where
    by_delta : (d : ℤ) (o : Option Framed) → older_by l.delta_at d o ≡ Ok (Some r) → o ≡ Some r
    by_delta (pos zero) o e = cc
    by_delta (pos (suc n)) None e = cc
    by_delta (pos (suc n)) (Some s) e = cc
    by_delta (negsuc n) None e = cc
    by_delta (negsuc n) (Some s) e = cc

pub linked_place : (r : Framed) (a : Answer Delta) (l : Link) → linked r a ≡ Ok l → l.frame ≡ r
linked_place r (Err f) l e = cc
linked_place r (Ok g) l e = let q : link_of r g.value ≡ l = cc in sym (ap (λ (z : Link). z.frame) q)

module _ (c : List ℕ) (rs : List Framed) (last : ℕ) (links : List Link) (r : Framed) (h : Reading c rs last links (Some r)) where
  pub reading_more : (l : Link) (o : Option Framed) (new : List Link) → Ok l ≡ linked r (run head_format c (record_end r) r.body) → Ok o ≡ older_of rs l → new ≡ links ++ l ∷ []
      → Reading c rs last new o
  reading_more l o new e f g =
      let t : chain_of c rs r ≡ before_links l (rest c rs o) = chain_after c rs r h.listed.among ∙ ap (after_link c rs) (sym e) ∙ ap (λ a. before_links l (then_rest c rs a)) (sym f) in
      record {
        total = h.total ∙ ap (joined links) t ∙ joined_more links l (rest c rs o) ∙ ap (λ ls. joined ls (rest c rs o)) (sym g);
        listed = older_listed rs l o (sym f);
      }

  pub link_stops : (f : Flaw) → Err f ≡ linked r (run head_format c (record_end r) r.body) → rest c rs (checkpoint_at rs last) ≡ Err f
  link_stops f e = h.total ∙ ap (joined links) (chain_after c rs r h.listed.among ∙ ap (after_link c rs) (sym e))

  pub older_stops : (l : Link) (f : Flaw) → Ok l ≡ linked r (run head_format c (record_end r) r.body) → Err f ≡ older_of rs l → rest c rs (checkpoint_at rs last) ≡ Err f
  older_stops l f e g = h.total ∙ ap (joined links) (chain_after c rs r h.listed.among ∙ ap (after_link c rs) (sym e) ∙ ap (λ a. before_links l (then_rest c rs a)) (sym g))

pub reading_done : (c : List ℕ) (rs : List Framed) (last : ℕ) (links : List Link) (next : Option Framed) → Reading c rs last links next → next ≡ None → rest c rs (checkpoint_at rs last) ≡ Ok links
reading_done c rs last links next h e = h.total ∙ ap (λ o. joined links (rest c rs o)) e ∙ ap (λ z. Ok z) (append-nil links)

-- What was computed is the chain, or its flaw.
module _ (c : List ℕ) (rs : List Framed) (last : ℕ) (cover : AreRecords c rs) (starts : IsTrue (starts_at rs last 1)) where
  told : (a : Result (List Link) Flaw) → rest c rs (checkpoint_at rs last) ≡ a → Tells c rs (are_records c 68 (length c) rs cover) last a × IfSome (checkpoint_at rs last) (λ r. chain_of c rs r ≡ a)
  told a e = by_found (any_found rs last starts)
    where
      by_found : (r : Framed) × (checkpoint_at rs last ≡ Some r) → Tells c rs (are_records c 68 (length c) rs cover) last a × IfSome (checkpoint_at rs last) (λ r. chain_of c rs r ≡ a)
      by_found (r, f) =
          let k = found_checkpoint rs last r f in
          let g : chain_of c rs r ≡ a = ap (rest c rs) (sym f) ∙ e in
          let t = chain_tells c rs (are_records c 68 (length c) rs cover) r (record { among = k.among; place = refl; type_is = k.type_is }) in (
            subst (λ (z : ℕ). Tells c rs (are_records c 68 (length c) rs cover) z a) k.place (subst (Tells c rs (are_records c 68 (length c) rs cover) r.at) g t),
            subst (λ o. IfSome o (λ r. chain_of c rs r ≡ a)) (sym f) g,
          )

  pub told_chain : (ls read : List Link) → rest c rs (checkpoint_at rs last) ≡ Ok ls → read ≡ reverse ls
      → IsChain c rs last (reverse read) × IfSome (checkpoint_at rs last) (λ r. chain_of c rs r ≡ Ok (reverse read))
  told_chain ls read e q =
      let s : ls ≡ reverse read = sym (reverse-reverse ls) ∙ ap reverse (sym q) in
      told (Ok (reverse read)) (e ∙ ap (λ z. Ok z) s)

  pub told_flaw : (f : Flaw) → rest c rs (checkpoint_at rs last) ≡ Err f → IsRefusedChain c rs last (Flawed f) × IfSome (checkpoint_at rs last) (λ r. chain_of c rs r ≡ Err f)
  told_flaw f e = told (Err f) e

-- How far the next checkpoint is from the chunk's first byte.
abbrev pub room : Option Framed → ℕ
room None = 0
room (Some r) = suc r.at

pub falls : (c : List ℕ) (rs : List Framed) (r : Framed) (l : Link) (o before : Option Framed) → Ok l ≡ linked r (run head_format c (record_end r) r.body) → Ok o ≡ older_of rs l → before ≡ Some r
    → room o < room before
falls c rs r l o before e f g = subst (λ b. room o < room b) (sym g) (by_next o f)
  where
    by_next : (o : Option Framed) → Ok o ≡ older_of rs l → room o < suc r.at
    by_next None f = omega arith
    by_next (Some s) f =
        let i : s.at < l.frame.at = older_earlier rs l s (sym f) in
        let p : l.frame.at ≡ r.at = ap (λ (z : Framed). z.at) (linked_place r (run head_format c (record_end r) r.body) l (sym e)) in
        omega arith
