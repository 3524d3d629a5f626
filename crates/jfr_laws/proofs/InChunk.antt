-- The pools of a chunk that was read are in its bytes.
use Rattle.std.specs.Prelude.{◌≡◌, ℕ, zero, suc, ◌+◌, ◌≤◌, List, ◌∷◌, length}
use Rattle.std.proofs.Common.{ap, arith, refl, sym, ◌∙◌, subst}
use Rattle.jfr_base.specs.Integer.{IntAt}
use Rattle.jfr_base.specs.Formats.{Done, Stop, Here, ◌>>=◌, times, Reads}
use Rattle.jfr_base.proofs.ReadLaws.{Parted, reads_parted}
use Rattle.jfr_base.proofs.FreeLaws.{reads_exact}
use Rattle.jfr_layout.specs.Classes.{Classes}
use Rattle.jfr_value.specs.Reading.{value_format}
use Rattle.jfr_value.proofs.NodeLaws.{value_free}
use Rattle.jfr_pool.specs.Entries.{inline, Constant, constant_format, PoolAt, pool_format, checkpoint_format}
use Rattle.jfr_laws.specs.InChunk.{ConstantStands, AreConstants, PoolStands, ArePools, BodyStands}

module _ (c : List ℕ) (k : Classes) (end : ℕ) (inside : end ≤ length c) where
  -- The bytes spell what is read: a constant, constants, a pool, pools.
  constant_stands : (class at : ℕ) (x : Constant) (to : ℕ) → Reads (constant_format k class) c end at x to → ConstantStands c k class at x × (to ≡ x.end)
  constant_stands class at x to r =
      let q : ℕ = r.0 in
      let key : ℕ = r.1 in
      let d = reads_parted (value_format k (inline class)) (λ value. Here λ end. Done (record { key = key; key_at = at; value_at = q; end = end; value = value })) c end q x to r.5 in
      let e = reads_exact (value_format k (inline class)) c end q d.value d.place inside r.3 (value_free k (inline class)) d.first in
      let w : d.place ≤ end = e.within in
      subst (λ (z : Constant). ConstantStands c k class at z × (to ≡ z.end)) (sym d.second.0)
      (record { begins = refl; key = r.2; order = e.order; within = omega arith; exact = e.exact }, d.second.1)

  constants_stand : (class n at : ℕ) (xs : List Constant) (to : ℕ) → Reads (times n (constant_format k class)) c end at xs to → AreConstants c k class at xs to × (length xs ≡ n)
  constants_stand class zero at xs to r = subst (λ zs. AreConstants c k class at zs to × (length zs ≡ 0)) (sym r.0) (r.1, refl)
  constants_stand class (suc n) at xs to r =
      let d = reads_parted (constant_format k class) (λ a. times n (constant_format k class) >>= λ rest. Done (a ∷ rest)) c end at xs to r in
      let s = constant_stands class at d.value d.place d.first in
      let e = reads_parted (times n (constant_format k class)) (λ rest. Done (d.value ∷ rest)) c end d.place xs to d.second in
      let i = constants_stand class n d.place e.value e.place e.first in
      let v : AreConstants c k class d.value.end e.value to = subst (λ m. AreConstants c k class m e.value to) s.1 (subst (AreConstants c k class d.place e.value) (sym e.second.1) i.0) in
      subst (λ zs. AreConstants c k class at zs to × (length zs ≡ suc n)) (sym e.second.0) ((s.0, v), ap (λ m. suc m) i.1)

  pool_stands : (at : ℕ) (p : PoolAt) (to : ℕ) → Reads (pool_format k) c end at p to → PoolStands c k at p to
  pool_stands at p to r =
      let q : ℕ = r.0 in
      let class : ℕ = r.1 in
      let s = r.5 in
      let n : ℕ = s.1 in
      let d : Parted (times n (constant_format k class)) (λ constants. Done (record { class = class; constants = constants })) c end s.0 p to =
      reads_parted (times n (constant_format k class)) (λ constants. Done (record { class = class; constants = constants })) c end s.0 p to s.5 in
      let i = constants_stand class n s.0 d.value d.place d.first in
      let l : AreConstants c k class s.0 d.value to = subst (AreConstants c k class s.0 d.value) (sym d.second.1) i.0 in
      subst (λ (z : PoolAt). PoolStands c k at z to) (sym d.second.0)
      (record { count_at = q; first = s.0; class = r.2; known = r.4; count = subst (IntAt c q s.0) (sym i.1) s.2; constants = l })

  pools_stand : (n at : ℕ) (ps : List PoolAt) (to : ℕ) → Reads (times n (pool_format k)) c end at ps to → ArePools c k at ps to × (length ps ≡ n)
  pools_stand zero at ps to r = subst (λ zs. ArePools c k at zs to × (length zs ≡ 0)) (sym r.0) (r.1, refl)
  pools_stand (suc n) at ps to r =
      let d = reads_parted (pool_format k) (λ a. times n (pool_format k) >>= λ rest. Done (a ∷ rest)) c end at ps to r in
      let s = pool_stands at d.value d.place d.first in
      let e = reads_parted (times n (pool_format k)) (λ rest. Done (d.value ∷ rest)) c end d.place ps to d.second in
      let i = pools_stand n d.place e.value e.place e.first in
      subst (λ zs. ArePools c k at zs to × (length zs ≡ suc n)) (sym e.second.0) ((d.place, s, subst (ArePools c k d.place e.value) (sym e.second.1) i.0), ap (λ m. suc m) i.1)

  -- And the body of a checkpoint.
  pub body_stands : (at : ℕ) (pools : List PoolAt) → Reads (checkpoint_format k) c end at pools end → BodyStands c k end at pools
  unfolding checkpoint_format
  body_stands at pools r =
      let s = r.5 in
      let t = s.5 in
      let u = t.5.1 in
      let n : ℕ = u.1 in
      let d = reads_parted (times n (pool_format k)) (λ pools. Stop (Done pools)) c end u.0 pools end u.5 in
      let i = pools_stand n u.0 d.value d.place d.first in
      let e : pools ≡ d.value = d.second.1.0 in
      let f : end ≡ d.place = d.second.1.1 in
      let l : ArePools c k u.0 d.value end = subst (ArePools c k u.0 d.value) (sym f) i.0 in
      let m : length pools ≡ n = ap length e ∙ i.1 in
      record {
        middle = r.0;
        delta_at = s.0;
        delta_end = t.0;
        first = u.0;
        start = r.1;
        duration = s.1;
        word = t.1;
        start_spelled = r.2;
        duration_spelled = s.2;
        delta_spelled = t.2;
        kind_within = t.5.0;
        count = subst (IntAt c (t.0 + 1) u.0) (sym m) u.2;
        rest = subst (λ z. ArePools c k u.0 z end) (sym e) l;
      }
