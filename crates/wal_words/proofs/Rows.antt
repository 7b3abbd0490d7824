-- What rows of values ask for.
use Rattle.wal_words.proofs.Common.{◌≡◌, ◌≤◌, ℕ, ◌*◌, List, [], ◌∷◌, get_or, codes, Option, Some, None, IfSome, IfNone, Result, Ok, sym, ap, ◌∙◌, arith, map, refl, subst, length, ◌<◌, Err, unwrap_or, option_map, true, inl, inr, decimal_injective, found_of, kind_of, first_value, matched_of, raw_values, HasFormat, HasNumber, HasOptions, IsAudit, IsAxis, IsBeacon, IsTask, IsIdentifier, IsNumber, IsRow, identify, encode, read, recover, check, serve, replay, sample, image, unpack, bundle, member, challenge, verify, gateway, NoTask}
use Rattle.std.specs.Borrow.{Bor}
use Rattle.clap.proofs.WalkLemmas.{first_value-rows, raw_values-rows}
use Rattle.clap.specs.Faults.{fault_of, is_simple_and_free}
use Rattle.clap.specs.Simple.{App, HasMatchesOf, is_simple, matches_of}
use Rattle.clap.specs.Kinds.{FailsBy, HasKind, Kinds}
use Rattle.clap.proofs.OnLiterals.{clap_on_literals}
use Rattle.clap.specs.declared.parser.matches.ArgMatches.{ArgMatches}
use Rattle.clap.specs.declared.error.Error.{Error}
use Rattle.clap.specs.declared.error.kind.ErrorKind.TheVariants.{OutOfMemory}
use Rattle.clap.specs.Walk.{rows_of}
use Rattle.clap.specs.declared.parser.matches.Found.{Found}
use Rattle.wal_words.specs.CommandLine.{program, values_in}
use Rattle.wal_shape.specs.declared.metadata.BlobId.{BlobId}
use Rattle.wal_shape.specs.declared.axis.Axis.{Axis}
use Rattle.wal_shape.specs.declared.axis.Axis.TheVariants.{Primary, Secondary}
use Rattle.wal_shape.specs.declared.shape.Format.{Format}
use Rattle.wal_shape.specs.declared.shape.Format.TheVariants.{One, Two}
use Rattle.wal_words.specs.declared.task.Audit.{Audit}
use Rattle.wal_words.specs.declared.task.Options.{Options}
use Rattle.wal_words.specs.declared.task.Task.{Task}
use Rattle.wal_words.specs.declared.task.Task.TheVariants.{Whole, Read, Sample}
use Rattle.wal_words.specs.declared.task.WholeTask.TheVariants.{Identify, Encode, Check, Image, Bundle, Challenge, Verify, Gateway}
use Rattle.wal_words.specs.inside.Task.{FoundAsks}

-- a word spells one number
pub one_number : (least most : ℕ) (word : List ℕ) (m n : ℕ) → most ≤ 18446744073709551615 → IsNumber least most word m → IsNumber least most word n → m ≡ n
one_number least most word m n small a b =
    decimal_injective m n (omega (arith, small, a.2)) (omega (arith, small, b.2)) (sym a.0 ∙ b.0)

-- a word spells one list of 32 bytes, and so one identifier
one_spelled : (word x y : List ℕ) → IsBeacon word x → IsBeacon word y → x ≡ y
one_spelled word x y a b = cc

one_identifier : (word : List ℕ) (x y : BlobId) → IsIdentifier word x.0 → IsIdentifier word y.0 → x ≡ y
one_identifier word x y a b = ap (λ (l : List ℕ). record { 0 = l }) (one_spelled word x.0 y.0 a b)

-- a word names one axis
one_axis : (word : List ℕ) (x y : Axis) → IsAxis word x → IsAxis word y → x ≡ y
one_axis word Primary Primary a b = refl
one_axis word Secondary Secondary a b = refl
one_axis word x y a b = let no = sym a ∙ b in cc

-- a word spells the number of one shard, of whatever committees
pub one_shard : (f g : ℕ) (word : List ℕ) (m n : ℕ) → f ≤ 333 → g ≤ 333 → IsNumber 0 (3 * f) word m → IsNumber 0 (3 * g) word n → m ≡ n
one_shard f g word m n few also a b =
    decimal_injective m n (omega (arith, few, a.2)) (omega (arith, also, b.2)) (sym a.0 ∙ b.0)

-- words spell one storage challenge
one_audit : (word place beacon amount : List ℕ) (x y : Audit) → IsAudit word place beacon amount x → IsAudit word place beacon amount y → x ≡ y
one_audit word place beacon amount x y a b =
    let ids = one_identifier word x.id y.id a.identifier b.identifier in
    let shards = one_number 0 999 place x.shard y.shard (omega arith) a.shard_number b.shard_number in
    let beacons = one_spelled beacon x.beacon y.beacon a.beacon_bytes b.beacon_bytes in
    let counts = one_number 1 1000 amount x.count y.count (omega arith) a.symbol_count b.symbol_count in
    λ i. record { id = ids i; shard = shards i; beacon = beacons i; count = counts i }

-- the word after the bound spells no shard's number, so the values ask for nothing
pub no_shard : (options : Options) (first second : List ℕ) (f : ℕ) (r : Option Task) → IsNumber 1 333 first f → ((n : ℕ) → IsNumber 0 (3 * f) second n → ⊥)
    → IfNone r ((t : Task) → IsRow options (codes "serve" ∷ first ∷ second ∷ []) t → ⊥)
no_shard options first second f (Some u) is none = tt
no_shard options first second f None is none = λ t row. refused first second t row is none
  where
    refused : (first second : List ℕ) (t : Task) → IsRow options (codes "serve" ∷ first ∷ second ∷ []) t → IsNumber 1 333 first f
        → ((n : ℕ) → IsNumber 0 (3 * f) second n → ⊥) → ⊥
    refused _ _ _ (serve word place g shard is_g is_shard) is none =
        let same : f ≡ g = one_number 1 333 word f g (omega arith) is is_g in
        none shard (is_shard.0, is_shard.1, omega (arith, is_shard.2, same))

-- values ask for one task
pub one_row : (options : Options) (values : List (List ℕ)) (t u : Task) → IsRow options values t → IsRow options values u → t ≡ u
one_row options _ _ _ (identify word f is) (identify _ g is') = ap (λ (n : ℕ). Whole (Identify n options.format)) (one_number 1 333 word f g (omega arith) is is')
one_row options _ _ _ (encode word f is) (encode _ g is') = ap (λ (n : ℕ). Whole (Encode n options.format)) (one_number 1 333 word f g (omega arith) is is')
one_row options _ _ _ (read word x is) (read _ y is') = ap Read (one_identifier word x y is is')
one_row options _ _ _ (recover word direction place x a i is_x is_a is_i) (recover _ _ _ y b j is_y is_b is_j) =
    let ids = one_identifier word x y is_x is_y in
    let places = one_number 0 999 place i j (omega arith) is_i is_j in
    cc (one_axis direction a b is_a is_b)
one_row options _ _ _ (check word x is) (check _ y is') = ap (λ (id : BlobId). Whole (Check id)) (one_identifier word x y is is')
one_row options _ _ _ (serve word place f s is_f is_s) (serve _ _ g t is_g is_t) =
    let bounds = one_number 1 333 word f g (omega arith) is_f is_g in
    cc (one_shard f g place s t (omega (arith, is_f.2)) (omega (arith, is_g.2)) is_s is_t)
one_row options _ _ _ replay replay = refl
one_row options _ _ _ (sample word k is) (sample _ m is') = ap Sample (one_number 0 18446744073709551615 word k m (omega arith) is is')
one_row options _ _ _ (image word k is) (image _ m is') = ap (λ (n : ℕ). Whole (Image n)) (one_number 1 134217728 word k m (omega arith) is is')
one_row options _ _ _ unpack unpack = refl
one_row options _ _ _ (bundle word f is) (bundle _ g is') = ap (λ (n : ℕ). Whole (Bundle n)) (one_number 1 333 word f g (omega arith) is is')
one_row options _ _ _ (member word place x k is_x is_k) (member _ _ y m is_y is_m) =
    cc (one_identifier word x y is_x is_y, one_number 0 65535 place k m (omega arith) is_k is_m)
one_row options _ _ _ (challenge word place beacon amount x is) (challenge _ _ _ _ y is') =
    ap (λ (a : Audit). Whole (Challenge a)) (one_audit word place beacon amount x y is is')
one_row options _ _ _ (verify word place beacon amount x is) (verify _ _ _ _ y is') =
    ap (λ (a : Audit). Whole (Verify a)) (one_audit word place beacon amount x y is is')
one_row options _ _ _ (gateway word k is) (gateway _ m is') = ap (λ (n : ℕ). Whole (Gateway n)) (one_number 1 64 word k m (omega arith) is is')

-- a command's row, where its first value is the command's name
pub named_row : (options : Options) (name command : List ℕ) (more : List (List ℕ)) (t : Task) → command ≡ name
    → IsRow options (name ∷ more) t → IsRow options (command ∷ more) t
named_row options name command more t same row = rw same row

-- a list of four values, and of five
pub four_values : (d : Bor (List ℕ)) (values : List (Bor (List ℕ))) → 4 ≤ length values → length values < 5
    → map (λ (v : Bor (List ℕ)). v.now) values
    ≡ (get_or values 0 d).now ∷ (get_or values 1 d).now ∷ (get_or values 2 d).now ∷ (get_or values 3 d).now ∷ []
four_values d (v ∷ w ∷ x ∷ y ∷ []) some few = refl
four_values d values some few = absurd (omega arith)

-- a list of five values, one by one
pub five_values : (d : Bor (List ℕ)) (values : List (Bor (List ℕ))) → 5 ≤ length values → length values < 6
    → map (λ (v : Bor (List ℕ)). v.now) values
    ≡ (get_or values 0 d).now ∷ (get_or values 1 d).now ∷ (get_or values 2 d).now ∷ (get_or values 3 d).now ∷ (get_or values 4 d).now ∷ []
five_values d (v ∷ w ∷ x ∷ y ∷ z ∷ []) some few = refl
five_values d values some few = absurd (omega arith)

-- given options are in range in one way
one_choice : (missing least most : ℕ) (given : Option (List ℕ)) (m n : ℕ) → most ≤ 18446744073709551615 → HasNumber missing least most given m
    → HasNumber missing least most given n → m ≡ n
one_choice missing least most None m n small a b = a ∙ sym b
one_choice missing least most (Some word) m n small a b = one_number least most word m n small a b

one_format : (given : Option (List ℕ)) (x y : Format) → HasFormat given x → HasFormat given y → x ≡ y
one_format None x y a b = a ∙ sym b
one_format (Some word) One One a b = refl
one_format (Some word) Two Two a b = refl
one_format (Some word) x y a b = absurd (omega (arith, ap (λ (l : List ℕ). get_or l 0 0) (sym a ∙ b)))

one_set : (blobs pages format : Option (List ℕ)) (x y : Options) → HasOptions blobs pages format x → HasOptions blobs pages format y → x ≡ y
one_set blobs pages format x y a b =
    let counts = one_choice 1024 1 65536 blobs x.blobs y.blobs (omega arith) a.blob_count b.blob_count in
    let sizes = one_choice 16384 1 262144 pages x.pages y.pages (omega arith) a.page_count b.page_count in
    let formats = one_format format x.format y.format a.identifier_format b.identifier_format in
    λ i. record { blobs = counts i; pages = sizes i; format = formats i }

-- words ask for one task
pub one_task : (words : List (List ℕ)) (t u : Task) → IsTask words t → IsTask words u → t ≡ u
one_task words t u a b =
    let same = one_set _ _ _ a.asks.options b.asks.options a.asks.has_options b.asks.has_options in
    one_row b.asks.options (values_in words) t u (rw same at a.asks.row) b.asks.row

-- what clap found is what its definition gives
pub from_found : (words : List (List ℕ)) (found : Found) (task : Task) → rows_of found ≡ matches_of program words → fault_of program words ≡ []
    → FoundAsks found task → IsTask words task
from_found words found task same accepted asked = record {
  accepted = accepted;
  asks = rw (
    ← same,
    ← raw_values-rows found (codes "words"),
    ← first_value-rows found (codes "blobs"),
    ← first_value-rows found (codes "pages"),
    ← first_value-rows found (codes "format"),
  ) asked;
}

pub to_found : (words : List (List ℕ)) (found : Found) (task : Task) → rows_of found ≡ matches_of program words → IsTask words task → FoundAsks found task
to_found words found task same asked =
    rw (raw_values-rows found (codes "words"), first_value-rows found (codes "blobs"), first_value-rows found (codes "pages"), first_value-rows found (codes "format"), same) asked.asks

-- clap's definitions compute at the program's command
pub simple : is_simple program ≡ true
unfolding clap_on_literals
simple = refl

-- the table of words is simple, and no word stands twice
pub free : is_simple_and_free program ≡ true
unfolding clap_on_literals
free = refl

-- what clap found of the words, and that it finds no fault where it found something
pub found_rows : (app : App) (given words : List (List ℕ)) (m : ArgMatches) → app ≡ program → given ≡ words → HasMatchesOf app given m
    → rows_of (found_of m) ≡ matches_of program words
found_rows app given words m same texts has =
    let matched : HasMatchesOf program words m = subst (λ (a : App). HasMatchesOf a words m) same (subst (λ (w : List (List ℕ)). HasMatchesOf app w m) texts has) in
    (matched simple).0

abbrev Judges : App → List (List ℕ) → Result ArgMatches Error → Type 0
Judges app given r = is_simple_and_free app ≡ true → FailsBy (fault_of app given) r

judged : (app : App) (given words : List (List ℕ)) (r : Result ArgMatches Error) → app ≡ program → given ≡ words → Judges app given r
    → FailsBy (fault_of program words) r
judged app given words r same texts judge =
    let judge' : Judges program words r = subst (λ (a : App). Judges a words r) same (subst (λ (w : List (List ℕ)). Judges app w r) texts judge) in
    judge' free

-- the grammar finds no fault in words that the parser takes
pub no_fault : (app : App) (given words : List (List ℕ)) (r : Result ArgMatches Error) (m : ArgMatches) → app ≡ program → given ≡ words
    → (is_simple_and_free app ≡ true → FailsBy (fault_of app given) r) → r ≡ Ok m → fault_of program words ≡ []
no_fault app given words r m same texts judge is =
    subst (λ (q : Result ArgMatches Error). FailsBy (fault_of program words) q) is (judged app given words r same texts judge)

-- words that the parser refuses, but for want of memory, ask for nothing
pub no_task : (app : App) (given words : List (List ℕ)) (r : Result ArgMatches Error) (e : Error) → app ≡ program → given ≡ words
    → (is_simple_and_free app ≡ true → FailsBy (fault_of app given) r) → r ≡ Err e → (kind_of e ≡ OutOfMemory → ⊥) → NoTask words
no_task app given words r e same texts judge is other = λ t asked.
    let kinds : HasKind (fault_of program words) e =
    subst (λ (q : Result ArgMatches Error). FailsBy (fault_of program words) q) is (judged app given words r same texts judge) in
    refused (fault_of program words) asked.accepted kinds
  where
    refused : (kinds : Kinds) → kinds ≡ [] → HasKind kinds e → ⊥
    refused [] none (inl memory) = other memory
    refused [] none (inr among) = among
    refused (k ∷ ks) none has = absurd (omega (arith, ap (λ (l : Kinds). length l) none))

pub task_found : (words : List (List ℕ)) (found : Found) (o : Option Task) → rows_of found ≡ matches_of program words → fault_of program words ≡ []
    → IfSome o (FoundAsks found) → IfSome o (λ t. IsTask words t)
task_found words found None same accepted asked = tt
task_found words found (Some t) same accepted asked = from_found words found t same accepted asked

pub none_found : (words : List (List ℕ)) (found : Found) (o : Option Task) → rows_of found ≡ matches_of program words
    → IfNone o ((t : Task) → FoundAsks found t → ⊥) → IfNone o (NoTask words)
none_found words found None same none = λ t asked. none t (to_found words found t same asked)
none_found words found (Some t) same none = tt

pub only_task : (words : List (List ℕ)) (o : Option Task) → IfSome o (λ t. IsTask words t)
    → IfSome o (λ t. (other : Task) → IsTask words other → other ≡ t)
only_task words None asked = tt
only_task words (Some t) asked = λ other also. one_task words other t also asked

-- the values that were found, as a list of texts
pub moved_values : (v d : Bor (List (Bor (List ℕ)))) (r : Option (Bor (List (Bor (List ℕ))))) (o : Option (List (List ℕ))) → v ≡ unwrap_or r d
    → option_map (λ (s : Bor (List (Bor (List ℕ)))). map (λ (w : Bor (List ℕ)). w.now) s.now) r ≡ o → d.now ≡ []
    → map (λ (w : Bor (List ℕ)). w.now) v.now ≡ unwrap_or o []
moved_values v d None o is same empty = rw (is, ← same, empty)
moved_values v d (Some s) o is same empty = rw (is, ← same)

-- the values ask for nothing with the options that were found, so what was found asks for nothing
pub none_asked : (found : Found) (options : Options) (values : List (List ℕ)) (o : Option Task)
    → HasOptions (first_value found (codes "blobs")) (first_value found (codes "pages")) (first_value found (codes "format")) options
    → values ≡ unwrap_or (option_map raw_values (matched_of found (codes "words"))) []
    → IfNone o ((t : Task) → IsRow options values t → ⊥) → IfNone o ((t : Task) → FoundAsks found t → ⊥)
none_asked found options values (Some t) has same none = tt
none_asked found options values None has same none = λ t asked.
    let set = one_set _ _ _ asked.options options asked.has_options has in
    none t (rw (same, ← set) asked.row)
