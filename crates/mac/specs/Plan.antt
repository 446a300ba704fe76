-- The plan that the algorithms share. A key is made into a record of three parts; a run starts from the first of them and
-- keeps the others, and is fed under the second where the hash adds words. An algorithm is what differs. Assumes nothing.
use Rattle.std.specs.Prelude.{◌≡◌, ℕ, ◌+◌, ◌/◌, ◌≤◌, Bool, true, cond, List, length, take, refl}
use Rattle.std.proofs.Common.{◌∙◌, sym, subst, arith}
use Rattle.hash.specs.Meaning.{Meaning, blocks, none}
use Rattle.mac.specs.declared.Span.{Span}
use Rattle.mac.specs.declared.KeyRecord.{KeyRecord}
use Rattle.mac.specs.declared.Run.{Run}
use Rattle.mac.specs.Face.{Face, Laws, within, from_one}
use Rattle.mac.specs.Stream.{Stream, Streams}

-- rounds of a message of at most so many bytes: while it is fed, and once it has ended
pub record Counts (most : ℕ) : Type 0 where
  pub held : ℕ → ℕ
  pub whole : ℕ → ℕ
  pub none : held 0 ≡ 0
  pub rises : (m n : ℕ) → m ≤ n → held m ≤ held n
  pub bounded : (n : ℕ) → held n ≤ whole n
  pub steady : (n : ℕ) → n ≤ most → held n ≡ n / 64

pub rises_by_blocks : (m n : ℕ) → m ≤ n → m / 64 ≤ n / 64
rises_by_blocks m n le = omega arith

pub bounded_by_blocks : (n : ℕ) → n / 64 ≤ blocks n + 1
bounded_by_blocks n = omega arith

-- a round for each whole block, those of the padded message's end, and one more
abbrev pub by_blocks : (most : ℕ) → Counts most
by_blocks most = record {
  held = λ n. n / 64;
  whole = λ n. blocks n + 1;
  none = refl;
  rises = rises_by_blocks;
  bounded = bounded_by_blocks;
  steady = λ n le. refl;
}

-- what a key is made into: the lengths that are taken, the rounds, and the three parts
pub record Keying : Type 0 where
  pub keys : Span
  pub setup : ℕ
  pub first : List ℕ → List ℕ
  pub second : List ℕ → List ℕ
  pub bytes : List ℕ → List ℕ

pub record Recorded (k : Keying) (r : KeyRecord) (key : List ℕ) : Type 0 where
  pub size : within k.keys (length key) ≡ true
  pub first : r.first ≡ k.first key
  pub second : r.second ≡ k.second key
  pub bytes : r.bytes ≡ k.bytes key

pub record Plan : Type 0 where
  pub keying : Keying
  -- the longest tag and the longest message
  pub longest : ℕ
  pub most : ℕ
  -- does it need a hash with added words?
  pub needs : Bool
  pub counts : Counts most
  -- the code of a key and a message, of which a tag is the front
  pub code : List ℕ → List ℕ → List ℕ

module _ (m : Meaning) (p : Plan) where
  pub record Standing (run : Run) (key bytes : List ℕ) : Type 0 where
    pub size : within p.keying.keys (length key) ≡ true
    pub stream : Stream m p.most (p.keying.first key) (cond p.needs (p.keying.second key) none) run bytes
    pub second : run.second ≡ p.keying.second key
    pub spare : run.bytes ≡ p.keying.bytes key

  abbrev pub face_of : Face
  face_of = record {
    row = from_one p.keying.keys p.longest p.most;
    needs = p.needs;
    setup = p.keying.setup;
    held = p.counts.held;
    whole = p.counts.whole;
    tag = λ key message t. take t (p.code key message);
    RecordStands = Recorded p.keying;
    RunStands = Standing;
  }

  pub laws_of : Laws face_of
  laws_of = record {
    none = p.counts.none;
    rises = p.counts.rises;
    bounded = p.counts.bounded;
    keyed = λ r k s. s.size;
    begun = λ r k b s. s.stream.begun;
    fits = λ r k b s. s.stream.few;
  }

  pub streams_of : Streams m face_of
  streams_of = record {
    start = λ k. p.keying.first k;
    starts = λ r k s. record {
      size = s.size;
      stream = record { begun = refl; fed = refl; few = omega arith; chain = s.first; held = refl };
      second = s.second;
      spare = s.bytes;
    };
    stream = λ run k b s. subst (λ (w : List ℕ). Stream m p.most (p.keying.first k) (cond p.needs w none) run b) (sym s.second) s.stream;
    joined = λ run0 run1 k b c s t e f. record {
      size = s.size;
      stream = subst (λ (w : List ℕ). Stream m p.most (p.keying.first k) (cond p.needs w none) run1 c) s.second t;
      second = e ∙ s.second;
      spare = f ∙ s.spare;
    };
    steady = p.counts.steady;
  }
