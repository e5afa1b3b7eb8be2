-- A body's refusal names a fault of its bytes.
use Rattle.std.proofs.Common.{◌≡◌, ◌≢◌, ℕ, ◌≤◌, Bool, true, false, cond, eqb, List, [], ◌∷◌, take, drop, Option, None, Some, Result, Ok, Err, refl, sym, subst, arith}
use Rattle.std.specs.Prelude.{IfSome, IfErr, option_map}
use Rattle.std.specs.Option.{option_or}
use Rattle.std.proofs.lemmas.Bool.{false≢true, leb-true, and_parts, eqb-false}
use Rattle.std.specs.List.{AllByRecursion}
use Rattle.cs_base.specs.declared.port_kind.PortKind.{PortKind}
use Rattle.field_layout.specs.Layout.{first_fault, number_in, fault_named}
use Rattle.eth_proto.specs.Spelling as eth
use Rattle.eth_proto.specs.declared.eth_bad.EthBad.{EthBad}
use Rattle.eth_proto.specs.declared.eth_bad.EthBad.TheVariants as eth_bad
use Rattle.access_proto.specs.Spelling as access
use Rattle.access_proto.specs.declared.access.Operation.{Operation}
use Rattle.access_proto.specs.declared.access.Operation.TheVariants as operation
use Rattle.access_proto.specs.declared.access_bad.AccessBad.{AccessBad}
use Rattle.access_proto.specs.declared.access_bad.AccessBad.TheVariants as access_bad
use Rattle.mem_proto.specs.Spelling as mem
use Rattle.mem_proto.specs.Refusals.{refused_as as mem_refused_as}
use Rattle.mem_proto.specs.declared.mem_bad.MemBad.{MemBad}
use Rattle.mem_proto.specs.declared.mem_bad.MemBad.TheVariants as mem_bad
use Rattle.pcie_proto.specs.FromDevice as dev
use Rattle.pcie_proto.specs.FromHost as host
use Rattle.pcie_proto.specs.Refusals.{refused_as as pcie_refused_as, access_refusal as pcie_access_refusal}
use Rattle.pcie_proto.specs.declared.pcie_bad.PcieBad.{PcieBad}
use Rattle.pcie_proto.specs.declared.pcie_bad.PcieBad.TheVariants as pcie_bad
use Rattle.sb_intro.specs.Spelling as intro
use Rattle.sb_intro.specs.declared.intro_bad.IntroBad.{IntroBad}
use Rattle.sb_intro.specs.declared.intro_bad.IntroBad.TheVariants as intro_bad
use Rattle.sb_message.specs.declared.message.Msg.{Msg}
use Rattle.sb_message.specs.declared.msg_bad.MsgBad.{MsgBad}
use Rattle.sb_message.specs.declared.msg_bad.MsgBad.TheVariants as msg_bad
use Rattle.sb_message.specs.declared.msg_bad.UpperBad.{UpperBad}
use Rattle.sb_message.specs.declared.msg_bad.UpperBad.TheVariants as upper
use Rattle.sb_message.specs.Types.{is_dev_type, is_host_type, is_mem_type}
use Rattle.sb_message.specs.Spelling.{type_of, header_faults, body_refusal, refusal, fault_of, NamesFault}

-- ---- what holds of a refusal

first_fault-all : {E : Type 0} (P : E → Type 0) (faults : List (Bool × E)) → AllByRecursion (λ (fault : Bool × E). fault.0 ≡ true → P fault.1) faults → IfSome (first_fault faults) P
first_fault-all P [] all = tt
first_fault-all {E} P (fault ∷ faults) all = at fault.0 all.0 (first_fault-all P faults all.1) where
  at : (test : Bool) → (test ≡ true → P fault.1) → IfSome (first_fault faults) P → IfSome (cond test (Some fault.1) (first_fault faults)) P
  at true here later = here refl
  at false here later = later

if_some-map : {A B : Type 0} (f : A → B) (P : B → Type 0) (o : Option A) → IfSome o (λ x. P (f x)) → IfSome (option_map f o) P
if_some-map f P None h = tt
if_some-map f P (Some x) h = h

if_some-or : {A : Type 0} (P : A → Type 0) (o p : Option A) → IfSome o P → IfSome p P → IfSome (option_or o p) P
if_some-or P None p first second = second
if_some-or P (Some x) p first second = first

if_some-cond : {A : Type 0} (P : A → Type 0) (test : Bool) (o p : Option A) → IfSome o P → IfSome p P → IfSome (cond test o p) P
if_some-cond P true o p first second = first
if_some-cond P false o p first second = second

-- ---- the refusals of the parts

NamesUpper : UpperBad → Type 0
NamesUpper bad = NamesFault (msg_bad.Upper bad)

NamesIntro : IntroBad → Type 0
NamesIntro bad = bad ≢ intro_bad.UnknownType

intro_names : (fields payload : List ℕ) → IfSome (intro.refusal 1 fields payload) NamesIntro
unfolding NamesIntro
intro_names fields payload = first_fault-all NamesIntro (intro.faults 1 fields payload)
    ((λ there. absurd (false≢true there)), ((λ there e. absurd cc), ((λ there e. absurd cc), ((λ there e. absurd cc), ((λ there e. absurd cc), tt)))))

NamesEth : EthBad → Type 0
NamesEth bad = (bad ≢ eth_bad.UnknownType) × (bad ≢ eth_bad.NoMemory)

eth_names : (fields payload : List ℕ) → IfSome (eth.refusal 0x70 fields payload) NamesEth
unfolding NamesEth
eth_names fields payload = first_fault-all NamesEth (eth.faults 0x70 fields payload)
    ((λ there. absurd (false≢true there)), ((λ there. ((λ e. absurd cc), (λ e. absurd cc))), ((λ there. ((λ e. absurd cc), (λ e. absurd cc))), ((λ there. ((λ e. absurd cc), (λ e. absurd cc))), ((λ there. ((λ e. absurd cc), (λ e. absurd cc))), tt)))))

NamesAccess : AccessBad → Type 0
NamesAccess bad = bad ≢ access_bad.NoMemory

access_names : (op : Operation) (fields payload : List ℕ) → IfSome (access.refusal op fields payload) NamesAccess
unfolding NamesAccess
access_names op fields payload = first_fault-all NamesAccess (access.faults op fields payload) ((λ there e. absurd cc), ((λ there e. absurd cc), ((λ there e. absurd cc), tt)))

if_some-weaker : {A : Type 0} (P Q : A → Type 0) (o : Option A) → ((x : A) → P x → Q x) → IfSome o P → IfSome o Q
if_some-weaker P Q None weaker h = tt
if_some-weaker P Q (Some x) weaker h = weaker x h

if_some-when : {A : Type 0} (P : A → Type 0) (test : Bool) (o p : Option A) → (test ≡ true → IfSome o P) → (test ≡ false → IfSome p P) → IfSome (cond test o p) P
if_some-when P true o p first second = first refl
if_some-when P false o p first second = second refl

NamesMem : MemBad → Type 0
NamesMem bad = (bad ≢ mem_bad.UnknownType) × (bad ≢ mem_bad.NoMemory)

mem_refused : (bad : AccessBad) → NamesAccess bad → NamesMem (mem_refused_as bad)
unfolding NamesAccess NamesMem
mem_refused access_bad.LengthRange named = ((λ e. absurd cc), (λ e. absurd cc))
mem_refused access_bad.LengthDiffers named = ((λ e. absurd cc), (λ e. absurd cc))
mem_refused access_bad.FieldNotZero named = ((λ e. absurd cc), (λ e. absurd cc))
mem_refused access_bad.NoMemory named = absurd (named refl)

mem_access : (op : Operation) (fields payload : List ℕ) → IfSome (mem.access_refusal op fields payload) NamesMem
mem_access op fields payload = if_some-map mem_refused_as NamesMem (access.refusal op fields payload) (if_some-weaker NamesAccess (λ bad. NamesMem (mem_refused_as bad)) _ mem_refused (access_names op fields payload))

mem_names : (ty : ℕ) (fields payload : List ℕ) → is_mem_type ty ≡ true → IfSome (mem.refusal ty fields payload) NamesMem
mem_names ty fields payload is =
    let from : 0x50 ≤ ty = leb-true _ _ (and_parts _ _ is).0 in
    let to : ty ≤ 0x53 = leb-true _ _ (and_parts _ _ is).1 in
    if_some-when NamesMem (eqb ty 0x50) _ _ (λ here. mem_access operation.Read fields payload)
    (λ a. if_some-when NamesMem (eqb ty 0x51) _ _ (λ here. mem_access operation.Write fields payload)
    (λ b. if_some-when NamesMem (eqb ty 0x52) _ _ (λ here. mem_access operation.ReadDone fields payload)
    (λ d. if_some-when NamesMem (eqb ty 0x53) _ _ (λ here. mem_access operation.WriteDone fields payload)
    (λ e. absurd (omega (arith, from, to, eqb-false ty 0x50 a, eqb-false ty 0x51 b, eqb-false ty 0x52 d, eqb-false ty 0x53 e))))))

NamesPcie : PcieBad → Type 0
NamesPcie bad = (bad ≢ pcie_bad.UnknownType) × (bad ≢ pcie_bad.NoMemory)

pcie_refused : (bad : AccessBad) → NamesAccess bad → NamesPcie (pcie_refused_as bad)
unfolding NamesAccess NamesPcie
pcie_refused access_bad.LengthRange named = ((λ e. absurd cc), (λ e. absurd cc))
pcie_refused access_bad.LengthDiffers named = ((λ e. absurd cc), (λ e. absurd cc))
pcie_refused access_bad.FieldNotZero named = ((λ e. absurd cc), (λ e. absurd cc))
pcie_refused access_bad.NoMemory named = absurd (named refl)

pcie_access : (op : Operation) (fields payload : List ℕ) → IfSome (pcie_access_refusal op fields payload) NamesPcie
pcie_access op fields payload = if_some-map pcie_refused_as NamesPcie (access.refusal op fields payload) (if_some-weaker NamesAccess (λ bad. NamesPcie (pcie_refused_as bad)) _ pcie_refused (access_names op fields payload))

level_names : (fields payload : List ℕ) → IfSome (first_fault (dev.level_faults fields payload)) NamesPcie
unfolding NamesPcie
level_names fields payload = first_fault-all NamesPcie (dev.level_faults fields payload) ((λ there. ((λ e. absurd cc), (λ e. absurd cc))), ((λ there. ((λ e. absurd cc), (λ e. absurd cc))), ((λ there. ((λ e. absurd cc), (λ e. absurd cc))), tt)))

dev_names : (ty : ℕ) (fields payload : List ℕ) → is_dev_type ty ≡ true → IfSome (dev.refusal ty fields payload) NamesPcie
dev_names ty fields payload is =
    let from : 0x40 ≤ ty = leb-true _ _ (and_parts _ _ is).0 in
    let to : ty ≤ 0x44 = leb-true _ _ (and_parts _ _ is).1 in
    if_some-when NamesPcie (eqb ty 0x40) _ _ (λ here. pcie_access operation.Read fields payload)
    (λ a. if_some-when NamesPcie (eqb ty 0x41) _ _ (λ here. pcie_access operation.Write fields payload)
    (λ b. if_some-when NamesPcie (eqb ty 0x42) _ _ (λ here. level_names fields payload)
    (λ d. if_some-when NamesPcie (eqb ty 0x43) _ _ (λ here. pcie_access operation.ReadDone fields payload)
    (λ e. if_some-when NamesPcie (eqb ty 0x44) _ _ (λ here. pcie_access operation.WriteDone fields payload)
    (λ f. absurd (omega (arith, from, to, eqb-false ty 0x40 a, eqb-false ty 0x41 b, eqb-false ty 0x42 d, eqb-false ty 0x43 e, eqb-false ty 0x44 f)))))))

request_names : (op : Operation) (fields payload : List ℕ) → IfSome (host.request_refusal op fields payload) NamesPcie
unfolding NamesPcie
request_names op fields payload = if_some-when NamesPcie (eqb (number_in fields host.bar_field) 0) _ (Some pcie_bad.BadBar) (λ here. pcie_access op fields payload) (λ other. ((λ e. absurd cc), (λ e. absurd cc)))

host_names : (ty : ℕ) (fields payload : List ℕ) → is_host_type ty ≡ true → IfSome (host.refusal ty fields payload) NamesPcie
host_names ty fields payload is =
    let from : 0x60 ≤ ty = leb-true _ _ (and_parts _ _ is).0 in
    let to : ty ≤ 0x63 = leb-true _ _ (and_parts _ _ is).1 in
    if_some-when NamesPcie (eqb ty 0x60) _ _ (λ here. request_names operation.Read fields payload)
    (λ a. if_some-when NamesPcie (eqb ty 0x61) _ _ (λ here. request_names operation.Write fields payload)
    (λ b. if_some-when NamesPcie (eqb ty 0x62) _ _ (λ here. pcie_access operation.ReadDone fields payload)
    (λ d. if_some-when NamesPcie (eqb ty 0x63) _ _ (λ here. pcie_access operation.WriteDone fields payload)
    (λ e. absurd (omega (arith, from, to, eqb-false ty 0x60 a, eqb-false ty 0x61 b, eqb-false ty 0x62 d, eqb-false ty 0x63 e))))))

header_names : (kind : PortKind) (bytes : List ℕ) → IfSome (first_fault (header_faults kind bytes)) NamesFault
header_names kind bytes = first_fault-all NamesFault (header_faults kind bytes) ((λ there. tt), ((λ there. tt), ((λ there. tt), ((λ there. tt), tt))))

body_names : (ty : ℕ) (fields payload : List ℕ) → IfSome (body_refusal ty fields payload) NamesUpper
unfolding NamesUpper NamesIntro NamesEth NamesMem NamesPcie
body_names ty fields payload =
    if_some-cond NamesUpper (eqb ty 0) _ _ (if_some-cond NamesUpper _ None (Some upper.Sync) tt tt)
    (if_some-cond NamesUpper (eqb ty 1) _ _ (if_some-map upper.Intro NamesUpper (intro.refusal 1 fields payload) (intro_names fields payload))
    (if_some-when NamesUpper (is_dev_type ty) _ _ (λ is. if_some-map upper.Pcie NamesUpper (dev.refusal ty fields payload) (dev_names ty fields payload is))
    (λ not_dev. if_some-when NamesUpper (is_host_type ty) _ _ (λ is. if_some-map upper.Pcie NamesUpper (host.refusal ty fields payload) (host_names ty fields payload is))
    (λ not_host. if_some-when NamesUpper (is_mem_type ty) _ _ (λ is. if_some-map upper.Mem NamesUpper (mem.refusal ty fields payload) (mem_names ty fields payload is))
    (λ not_mem. if_some-map upper.Eth NamesUpper (eth.refusal 0x70 fields payload) (eth_names fields payload))))))

refusal_names : (kind : PortKind) (bytes : List ℕ) → IfSome (refusal kind bytes) NamesFault
unfolding NamesUpper
refusal_names kind bytes =
    if_some-or NamesFault (first_fault (header_faults kind bytes)) _ (header_names kind bytes)
    (if_some-map msg_bad.Upper NamesFault (body_refusal (type_of bytes) (take 48 bytes) (drop 64 bytes)) (body_names (type_of bytes) (take 48 bytes) (drop 64 bytes)))

names : (bad : MsgBad) (o : Option MsgBad) → fault_of bad ≡ o → IfSome o NamesFault → NamesFault bad
names msg_bad.NoMemory o is named = tt
names msg_bad.Short o is named = tt
names msg_bad.OwnerClear o is named = tt
names msg_bad.TypeNotOfKind o is named = tt
names msg_bad.ReservedNotZero o is named = tt
names (msg_bad.Upper bad) o is named = subst (λ o. IfSome o NamesFault) (sym is) named

pub upper_from : (r : Result Msg MsgBad) (kind : PortKind) (bytes : List ℕ) → fault_named fault_of r ≡ refusal kind bytes → IfErr r NamesFault
upper_from (Ok m) kind bytes refused = tt
upper_from (Err bad) kind bytes refused = names bad (refusal kind bytes) refused (refusal_names kind bytes)
