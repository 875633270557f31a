-- Bench disks keep their own laws: spare bytes, faces that are candidates, cuts by their picks.
use Rattle.std.proofs.Common.{◌≡◌, ℕ, ◌<◌, Bool, true, false, cond, ltb, List, Err, refl, arith}
use Rattle.std.proofs.lemmas.Bool.{ltb-true}
use Rattle.disks.specs.Values.{PastEnd, Answer}
use Rattle.disks.specs.Meaning.{Content, Whole}
use Rattle.disks.specs.Blocks.{whole_blocks, with_block}
use Rattle.disks.proofs.Blocks.{blocks_apart}
use Rattle.bench_disks.specs.Waiting.{Held, size_of, chosen, put, queue}
use Rattle.bench_disks.specs.Calls.{Bench, within}
use Rattle.bench_disks.specs.Views.{SoundHeld}
use Rattle.bench_disks.specs.Laws.{SpareStays, BenchLaws, CutLeaves, CutExamples, CutLaws}
use Rattle.bench_disks.specs.Holding.{Goes, stand_block, chosen_whole, face_stands, put_goes, queue_wrote}
use Rattle.bench_disks.specs.Keeping.{after_read, after_write, after_barrier, after_restart}

within_stays : {X : Type 0} (k : ℕ) (d e : Bench) (r : Answer X) → (k < size_of d.held → SpareStays d e) → SpareStays d (within k d (r, e)).1
within_stays {X} k d e r p = go (ltb k (size_of d.held)) refl
  where
    go : (t : Bool) → ltb k (size_of d.held) ≡ t → SpareStays d (cond {A = Answer X × Bench} t (r, e) (Err PastEnd, d)).1
    go true h = p (ltb-true k (size_of d.held) h)
    go false h = refl

bench_laws : (effect : ℕ → Content → Held → Held) → ((h : Held) (k : ℕ) (b : Content) → SoundHeld h → k < size_of h → Whole b → Goes h (λ j c. (j ≡ k) × (c ≡ b)) (effect k b h)) → BenchLaws effect
bench_laws effect goes = record {
  stand = λ d j lt. face_stands d.held j;
  read = λ d k snd. within_stays k d _ _ (λ lt. (after_read d k snd).goes.spare);
  write = λ d k b snd w. within_stays k d _ _ (λ lt. (after_write effect d k b snd (goes d.held k b snd.held lt w)).goes.spare);
  barrier = λ d snd. (after_barrier d snd).goes.spare;
  restart = λ d snd. (after_restart d snd).goes.spare;
}

pub plain_laws : BenchLaws put
plain_laws = bench_laws put put_goes

pub buffered_laws : BenchLaws queue
buffered_laws = bench_laws queue (λ h k b snd lt w. (queue_wrote h k b snd lt w).goes)

cut_leaves : CutLeaves
cut_leaves h pick k snd = stand_block (chosen pick 0 h.waiting) h.memory k (chosen_whole pick 0 (size_of h) h.waiting snd.writes)

cut_examples : (m : List ℕ) (k : ℕ) (b c : Content) → k < whole_blocks m → Whole b → Whole c → CutExamples m k b c
cut_examples m k b c lt wb wc = record {
  none = refl;
  first = (blocks_apart m k b lt wb.long).there;
  second = (blocks_apart m k c lt wc.long).there;
  both = (blocks_apart (with_block m k b) k c (let e = (blocks_apart m k b lt wb.long).long in omega arith) wc.long).there;
}

pub cut_laws : CutLaws
cut_laws = record { leaves = cut_leaves; examples = cut_examples }
