-- The hashes and algorithms by their numbers. Assumes nothing.
use Rattle.std.specs.Prelude.{◌≡◌, ℕ, cond, Some, None, Option, Result, MatchResult, ◌==◌}
use Rattle.refusals.specs.declared.Refusal.{Refusal}
use Rattle.refusals.specs.declared.Refusal.TheVariants.{Unknown}
use Rattle.hash.specs.Meaning.{Meaning}
use Rattle.ripemd160.specs.Means.{meaning160}
use Rattle.sha_1.specs.Means.{meaning1}
use Rattle.sha256.specs.Means.{meaning256}
use Rattle.mac.specs.Face.{Face}
use Rattle.hmac.specs.Hmac.{hmac_face}
use Rattle.mdxmac.specs.Mdx.{mdx_face}
use Rattle.mdxmac.specs.Short.{short_face}
use Rattle.tags.specs.declared.HashKind.{HashKind}
use Rattle.tags.specs.declared.HashKind.TheVariants.{OfRipemd160, OfSha1, OfSha256}
use Rattle.tags.specs.declared.AlgorithmKind.{AlgorithmKind}
use Rattle.tags.specs.declared.AlgorithmKind.TheVariants.{OfMdxMac, OfHmac, OfShortMac}

-- hash 1, 3 or 4
abbrev pub hash_by : ℕ → Option HashKind
hash_by n = cond (n == 1) (Some OfRipemd160) (cond (n == 3) (Some OfSha1) (cond (n == 4) (Some OfSha256) None))

-- algorithm 1, 2 or 3
abbrev pub algorithm_by : ℕ → Option AlgorithmKind
algorithm_by n = cond (n == 1) (Some OfMdxMac) (cond (n == 2) (Some OfHmac) (cond (n == 3) (Some OfShortMac) None))

-- the kind that a number has, if any; a number that has none is refused by question 1
abbrev pub Found : {K : Type 0} → Option K → Result K Refusal → Type 0
Found kind r = MatchResult r (λ k. kind ≡ Some k) (λ e. (e ≡ Unknown) × (kind ≡ None))

abbrev pub meaning_of : HashKind → Meaning
meaning_of OfRipemd160 = meaning160
meaning_of OfSha1 = meaning1
meaning_of OfSha256 = meaning256

abbrev pub face_of : AlgorithmKind → Meaning → Face
face_of OfMdxMac m = mdx_face m
face_of OfHmac m = hmac_face m
face_of OfShortMac m = short_face m
