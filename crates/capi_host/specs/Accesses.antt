-- A fresh state, and the host's writes and reads, as numbers.
use Rattle.std.specs.Prelude.{ℕ, ◌≡◌, Result, Ok, Err}
use Rattle.refusals.specs.Number.{inaccessible_number}
use Rattle.refusals.specs.declared.refusals.Inaccessible.{Inaccessible}
use Rattle.host_registers.specs.Access.{fresh_of, write_of, read_of}
use Rattle.host_registers.specs.Promises.{outcome_number, Begins, HostWrites, HostReads}
use Rattle.host_registers.specs.declared.access.Access.{Access}
use Rattle.capi_state.specs.Images.{image_state, state_image}
use Rattle.capi_host.specs.declared.accesses.AccessReply.{AccessReply}
use Rattle.capi_host.specs.declared.accesses.ReadReply.{ReadReply}
use Rattle.capi_state.specs.declared.images.StateImage.{StateImage}

abbrev pub access_reply : Access → AccessReply
access_reply access = record { refusal = outcome_number access.outcome; state = state_image access.state }

abbrev pub read_reply : Result ℕ Inaccessible → ReadReply
read_reply (Ok word) = record { refusal = 0; word = word }
read_reply (Err why) = record { refusal = inaccessible_number why; word = 0 }

-- each reply tells the host's answer, of which all holds that the host's call promises; its state stands for the host's
-- when it is handed in again
pub record HwsqFresh (family : ℕ) (reply : AccessReply) : Type 0 where
  pub answered : reply ≡ access_reply (fresh_of family)
  pub begins : Begins family (fresh_of family)
  pub handed_on : image_state reply.state ≡ (fresh_of family).state

pub record HwsqWrite (image : StateImage) (address word : ℕ) (reply : AccessReply) : Type 0 where
  pub answered : reply ≡ access_reply (write_of (image_state image) (record { 0 = address }) word)
  pub writes : HostWrites (image_state image) (record { 0 = address }) word (write_of (image_state image) (record { 0 = address }) word)
  pub handed_on : image_state reply.state ≡ (write_of (image_state image) (record { 0 = address }) word).state

pub record HwsqRead (image : StateImage) (address : ℕ) (reply : ReadReply) : Type 0 where
  pub answered : reply ≡ read_reply (read_of (image_state image) (record { 0 = address }))
  pub reads : HostReads (image_state image) (record { 0 = address }) (read_of (image_state image) (record { 0 = address }))
