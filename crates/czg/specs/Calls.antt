-- What is answered to a request, from the bytes of its inputs and its number.
use Rattle.std.specs.Prelude.{List, ℕ, ◌%◌}
use Rattle.lent.specs.Result.{Result, done}
use Rattle.keyed.specs.Keyed.{encrypt_block, decrypt_block}
use Rattle.keyentry.specs.KeyEntry.{key_entry}
use Rattle.cleaning.specs.Cleaning.{clean_text}
use Rattle.message.specs.Text.{joined_text, message_text}
use Rattle.mac.specs.Mac.{text_mac, message_mac}
use Rattle.pinblock.specs.Entries as Pin
use Rattle.password.specs.Password
use Rattle.vip.specs.Vip
use Rattle.card.specs.Entries as Card
use Rattle.registers.specs.Host.{initial_key, host_key}
use Rattle.host.specs.SingleLength.{single_length}
use Rattle.doublehost.specs.DoubleLength.{double_length}
use Rattle.recordbytes.specs.Calls.{loaded_bytes}
use Rattle.meanings.specs.Meanings.{meaning}
use Rattle.czg.specs.declared.requests.Entry.{Entry}
use Rattle.czg.specs.declared.requests.Entry.TheVariants.{Encrypt, Decrypt, KeyEntry, PinMake, PinMakeWithCard, PinRead, PinReadWithCard, PinEncrypt, PinEncryptWithCard, PinDecrypt, PinDecryptWithCard, PasswordMake, PasswordRead, VipMake, VipRead, DerivationData, CardKey, CardKeyUnadjusted, SessionKey, Arqc, Arpc, InitialKey, HostKey, TerminalLoad, DoubleInitialKey, DoubleHostKey, DoubleTerminalLoad, Meaning}
use Rattle.czg.specs.declared.requests.TextEntry.{TextEntry}
use Rattle.czg.specs.declared.requests.TextEntry.TheVariants.{Clean, MessageText, TextMac, MessageMac}

-- The answers of the entries that clean no text, from the inputs a, b and c and the number x. (A sequence is below 2 to the power 32 and a counter below
-- 2 to the power 16.) A terminal's next key has its own promise, `Next` of `recordbytes`. The self-test is no entry; its promise is the cipher's.
abbrev pub answer_of : Entry → List ℕ → List ℕ → List ℕ → ℕ → Result (List ℕ)
answer_of Encrypt a b c x = encrypt_block a b
answer_of Decrypt a b c x = decrypt_block a b
answer_of KeyEntry a b c x = key_entry a (record { 0 = x })
answer_of PinMake a b c x = Pin.make a
answer_of PinMakeWithCard a b c x = Pin.make_with_card a b
answer_of PinRead a b c x = Pin.read a
answer_of PinReadWithCard a b c x = Pin.read_with_card a b
answer_of PinEncrypt a b c x = Pin.encrypt a b
answer_of PinEncryptWithCard a b c x = Pin.encrypt_with_card a b c
answer_of PinDecrypt a b c x = Pin.decrypt a b
answer_of PinDecryptWithCard a b c x = Pin.decrypt_with_card a b c
answer_of PasswordMake a b c x = Password.make a
answer_of PasswordRead a b c x = Password.read a
answer_of VipMake a b c x = Vip.make a
answer_of VipRead a b c x = Vip.read a
answer_of DerivationData a b c x = Card.derivation_data a (x % 4294967296)
answer_of CardKey a b c x = Card.card_key a b (x % 4294967296)
answer_of CardKeyUnadjusted a b c x = Card.unadjusted_card_key a b (x % 4294967296)
answer_of SessionKey a b c x = Card.session_key a (x % 65536)
answer_of Arqc a b c x = Card.arqc a b
answer_of Arpc a b c x = Card.arpc a b c
answer_of InitialKey a b c x = initial_key single_length a b
answer_of HostKey a b c x = host_key single_length a b
answer_of TerminalLoad a b c x = loaded_bytes single_length a b
answer_of DoubleInitialKey a b c x = initial_key double_length a b
answer_of DoubleHostKey a b c x = host_key double_length a b
answer_of DoubleTerminalLoad a b c x = loaded_bytes double_length a b
answer_of Meaning a b c x = meaning (x % 4294967296)

-- the answers of the entries that clean a text
abbrev pub text_answer_of : TextEntry → List ℕ → List ℕ → Result (List ℕ)
text_answer_of Clean a b = clean_text a
text_answer_of MessageText a b = message_text a
text_answer_of TextMac a b = text_mac a b
text_answer_of MessageMac a b = message_mac a b

-- and the texts, before they are cleaned
abbrev pub text_of : TextEntry → List ℕ → List ℕ → Result (List ℕ)
text_of Clean a b = done a
text_of MessageText a b = joined_text a
text_of TextMac a b = done b
text_of MessageMac a b = joined_text b
