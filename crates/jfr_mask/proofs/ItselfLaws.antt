-- Each chunk differs from itself only in masked texts, none of which is exchanged for another.
use Rattle.std.specs.Prelude.{◌≡◌, ℕ, suc, zero, Bool, true, false, List, [], ◌∷◌, Option, None, Some}
use Rattle.std.specs.Option.{option_map}
use Rattle.std.proofs.Common.{refl}
use Rattle.jfr_value.specs.declared.leaf.Holder.{Holder}
use Rattle.jfr_value.specs.Leaves.{part_holder}
use Rattle.jfr_value.specs.Nodes.{Both, NodeAt, value_of}
use Rattle.jfr_value.specs.Values.{Value, Values, Single, Group, Nil, Cons}
use Rattle.jfr_pool.specs.Entries.{entry_node}
use Rattle.jfr_chunk.specs.Parts.{EventAt, Parts}
use Rattle.jfr_chunk.specs.Written as chunk_written
use Rattle.jfr_rewrite.specs.Rewritten.{OneToOne}
use Rattle.jfr_mask.specs.Masked.{is_masked_string, string_text}
use Rattle.jfr_mask.specs.MaskOf.{Event, Masking, Metadata, Origin, Pools, entries_left, is_masked_in, origin_of, records_out}
use Rattle.jfr_mask.specs.Secrecy.{AlikeChunk, AlikeEntry, AlikeGroup, AlikeNode, AlikeOrigin, AlikeRecord, AlikeSingle, AlikeValue, AlikeValues, IsExchange}

pub no_exchange : (known : List ℕ → Bool) → IsExchange known (λ t. t)
no_exchange known = record { one = λ t u e. e; same = λ t e. refl; others = λ t. refl; descriptor = λ t. refl }

each_itself : {A : Type 0} (R : A → A → Type 0) → ((x : A) → R x x) → (xs : List A) → OneToOne R xs xs
each_itself R one [] = tt
each_itself R one (x ∷ xs) = (one x, each_itself R one xs)

both_itself : {A : Type 0} (R : A → A → Type 0) → ((x : A) → R x x) → (o : Option A) → Both R o o
both_itself R one None = tt
both_itself R one (Some x) = one x

same_text : (o : Option (List ℕ)) → o ≡ option_map (λ t. t) o
same_text None = refl
same_text (Some t) = refl

module _ (masked : Option Holder → Bool) (p : Parts) where
  single_itself : (class : ℕ) (b : List ℕ) (key : Option ℕ) (t : Bool) → AlikeSingle t (λ t. t) p p class b key b key
  single_itself class b key true = same_text (string_text p class b key)
  single_itself class b key false = (refl, refl)

  mutual
    value_itself : (h : Option Holder) (v : Value) → AlikeValue masked (λ t. t) p p h v v
    value_itself h (Single s kind b key) = (refl, refl, single_itself s.class b key (is_masked_string masked h (Single s kind b key)))
    value_itself h (Group s head vs) = (refl, refl, values_itself (part_holder s h) vs)

    values_itself : (f : ℕ → Option Holder) (vs : Values) → AlikeValues masked (λ t. t) p p f vs vs
    values_itself f Nil = tt
    values_itself f (Cons v vs) = (value_itself (f zero) v, values_itself (λ n. f (suc n)) vs)

module _ (m : Masking) (p : Parts) where
  node_itself : (n : NodeAt) → AlikeNode m (λ t. t) p p n n
  node_itself n = both_itself (AlikeValue (is_masked_in m p.classes) (λ t. t) p p None) (value_itself (is_masked_in m p.classes) p None) (value_of p.classes p.bytes n)

  group_itself : (g : chunk_written.Group) → AlikeGroup m (λ t. t) p p g g
  group_itself g = record { class = refl; entries = each_itself (AlikeEntry m (λ t. t) p p) (λ e. record { key = refl; value = node_itself (entry_node e) }) g.entries }

  origin_itself : (x : Origin) → AlikeOrigin m (λ t. t) p p x x
  origin_itself (Event e) = record { class = refl; type = refl; fields = node_itself e.node; rest = refl }
  origin_itself (Metadata bytes) = refl
  origin_itself (Pools l pools) = record { type_id = refl; type = refl; times = refl; type_byte = refl; pools = each_itself (AlikeGroup m (λ t. t) p p) group_itself pools }

  pub chunk_itself : (kept : List EventAt) → AlikeChunk m (λ t. t) p p kept kept
  chunk_itself kept = record {
    classes = refl;
    header = refl;
    records = each_itself (AlikeRecord m (λ t. t) p p kept kept) (λ o. record { origin = origin_itself (origin_of p kept (entries_left m p kept) o); position = refl }) (records_out m p kept);
  }
