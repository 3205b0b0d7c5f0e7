-- What a client answers, from what its parts have made.
use Rattle.std.proofs.Common.{◌≡◌, ℕ, List, ◌++◌, sym, ap, ◌∙◌, subst, codes, Option, None, Some}
use Rattle.scram.specs.declared.binding.Binding.TheVariants.{Unable}
use Rattle.scram.specs.declared.client.ScramClient.{ScramClient}
use Rattle.scram.specs.declared.client.ScramClient.TheVariants as clients
use Rattle.scram.specs.Keys.{salted_password}
use Rattle.scram.specs.declared.challenge.Challenge.{Challenge}
use Rattle.scram.specs.Words.{Reads}
use Rattle.scram.specs.Messages.{IsServerFirst, AreParts, auth_message}
use Rattle.scram.specs.Clients.{Proven, IsAnswer, IsNoChallenge}
use Rattle.scram.proofs.Readers.{reads_some, reads_nothing}

pub answered : (old new : ScramClient) (password own bare message said reply nonce salt : List ℕ) (rounds : ℕ) → old ≡ clients.Opened password own bare
    → IsServerFirst own message nonce salt rounds → said ≡ bare ++ codes "," ++ message
    → Proven (salted_password password salt rounds) (auth_message said Unable nonce) nonce reply new → IsAnswer old message reply new
answered old new password own bare message said reply nonce salt rounds is first s proven =
    let at = subst (λ (t : List ℕ). Proven (salted_password password salt rounds) (auth_message t Unable nonce) nonce reply new) s proven in
    subst (λ (c : ScramClient). IsAnswer c message reply new) (sym is) (record { nonce = nonce; salt = salt; rounds = rounds; said = first; answers = at })

pub answered_by : (old new : ScramClient) (password own bare message said reply p o b s : List ℕ) (found : Option Challenge) (parts : Challenge) → old ≡ clients.Opened password own bare
    → o ≡ own → found ≡ Some parts → Reads (AreParts o message) found → b ≡ bare → said ≡ b ++ codes "," ++ message → p ≡ password → s ≡ said
    → Proven (salted_password p parts.salt parts.rounds) (auth_message s Unable parts.nonce) parts.nonce reply new → IsAnswer old message reply new
answered_by old new password own bare message said reply p o b s found parts is o_is there read b_is said_is p_is s_is proven =
    let first = subst (λ (w : List ℕ). IsServerFirst w message parts.nonce parts.salt parts.rounds) o_is (reads_some (AreParts o message) found parts there read) in
    let at = subst (λ (w : List ℕ). Proven (salted_password w parts.salt parts.rounds) (auth_message s Unable parts.nonce) parts.nonce reply new) p_is proven in
    let now = subst (λ (t : List ℕ). Proven (salted_password password parts.salt parts.rounds) (auth_message t Unable parts.nonce) parts.nonce reply new) s_is at in
    answered old new password own bare message said reply parts.nonce parts.salt parts.rounds is first (said_is ∙ ap (λ (t : List ℕ). t ++ codes "," ++ message) b_is) now

pub no_challenge_by : (old : ScramClient) (password own bare message o : List ℕ) (found : Option Challenge) → old ≡ clients.Opened password own bare → o ≡ own → found ≡ None
    → Reads (AreParts o message) found → IsNoChallenge old message
no_challenge_by old password own bare message o found is o_is none read =
    let nothing = reads_nothing (AreParts o message) found none read in
    subst (λ (c : ScramClient). IsNoChallenge c message) (sym is)
    (λ n s r first. nothing (record { nonce = n; salt = s; rounds = r }) (subst (λ (w : List ℕ). IsServerFirst w message n s r) (sym o_is) first))
