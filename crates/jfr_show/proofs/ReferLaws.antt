-- What a class and a key refer to.
use Rattle.std.specs.Prelude.{◌≡◌, ℕ, zero, suc, ◌++◌, List, [], is_some, Option, Some, None, Result, Ok, Err, IfOk, if◌then◌else◌}
use Rattle.std.specs.Option.{option_map, option_map_or}
use Rattle.std.proofs.Common.{ap, refl}
use Rattle.jfr_base.specs.declared.memory.NoMemory.{NoMemory}
use Rattle.jfr_layout.specs.Classes.{Sound}
use Rattle.jfr_value.specs.Values.{Value}
use Rattle.jfr_value.specs.Nodes.{NodeAt, IsNode}
use Rattle.jfr_value.proofs.NodeLaws.{value_is}
use Rattle.jfr_pool.specs.declared.entry.EntryAt.{EntryAt}
use Rattle.jfr_pool.specs.Entries.{in_force, entry_node}
use Rattle.jfr_chunk.specs.Parts.{Parts}
use Rattle.jfr_show.specs.Shown.{shown, node_shown, referred, reference_shown, missing_shown, event_shown}
use Rattle.jfr_show.specs.Texts.{newline}

-- What every good answer has, each good answer has.
pub by_answer : {A : Type 0} (r : Result A NoMemory) {P Q : A → Type 0} → IfOk r P → ((a : A) → P a → Q a) → IfOk r Q
by_answer (Ok a) h f = f a h
by_answer (Err a) h f = h

-- The entry of a node that was found.
pub no_entry : (o : Option EntryAt) → None ≡ option_map entry_node o → o ≡ None
no_entry None e = refl
no_entry (Some x) e = cc

pub record IsEntry (o : Option EntryAt) (n : NodeAt) : Type 0 where
  pub entry : EntryAt
  pub there : o ≡ Some entry
  pub node : n ≡ entry_node entry

pub entry_found : (o : Option EntryAt) (n : NodeAt) → Some n ≡ option_map entry_node o → IsEntry o n
entry_found None n e = cc
entry_found (Some x) n e = record { entry = x; there = refl; node = cc }

module _ (p : Parts) where
  pub refer_missing : (depth level : ℕ) (t : ℕ × ℕ) → in_force p.entries t ≡ None → referred p depth level t ≡ missing_shown p.classes t
  unfolding referred
  refer_missing zero level t e = ap (λ o. if is_some o then reference_shown p.classes t else missing_shown p.classes t) e
  refer_missing (suc depth) level t e = ap (λ o. option_map_or (λ e. node_shown p (referred p depth) level (entry_node e)) o (missing_shown p.classes t)) e

  pub refer_name : (depth level : ℕ) (t : ℕ × ℕ) (e : EntryAt) → depth ≡ 0 → in_force p.entries t ≡ Some e → referred p depth level t ≡ reference_shown p.classes t
  unfolding referred
  refer_name zero level t e z q = ap (λ o. if is_some o then reference_shown p.classes t else missing_shown p.classes t) q
  refer_name (suc depth) level t e z q = cc

  pub refer_value : (depth level : ℕ) (t : ℕ × ℕ) (e : EntryAt) → in_force p.entries t ≡ Some e → referred p (suc depth) level t ≡ node_shown p (referred p depth) level (entry_node e)
  unfolding referred
  refer_value depth level t e q = ap (λ o. option_map_or (λ e. node_shown p (referred p depth) level (entry_node e)) o (missing_shown p.classes t)) q

  pub node_is : Sound p.classes → (refer : ℕ → ℕ × ℕ → List ℕ) (level : ℕ) (n : NodeAt) (v : Value) → IsNode p.classes p.bytes n v → node_shown p refer level n ≡ shown p.classes refer level v
  node_is sound refer level n v i = ap (λ o. option_map_or (shown p.classes refer level) o []) (value_is p.classes p.bytes n v sound i)

  pub event_is : (depth : ℕ) (n : NodeAt) → event_shown p depth n ≡ node_shown p (referred p depth) 0 n ++ newline
  unfolding event_shown
  event_is depth n = refl
